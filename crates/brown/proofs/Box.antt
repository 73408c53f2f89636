-- A vector of field elements, read row by row as the coefficients of a polynomial in x and y.
use Rattle.std.proofs.Common.{◌≡◌, ℕ, zero, suc, ◌+◌, ◌-◌, ◌*◌, ◌<◌, ◌≤◌, sym, refl, ap, ◌∙◌, ap₂, arith}
use mathlib.Core.Path.{fun_ext}
use mathlib.Core.HLevel.{Discrete}
use native.Mathlib.Decide.{dec_le}
use Rattle.algebra.specs.Ring.{Ring, add_zero, mul_zero}
use Rattle.algebra.specs.Series.{Series, tail, sadd, scale}
use Rattle.algebra.specs.Bounded.{Below}
use Rattle.algebra.specs.Polynomial.{Poly, poly, poly_discrete, make, make_is, same, size, size_least}
use Rattle.algebra.specs.Change.{number, poly₂}
use Rattle.algebra.specs.Field.{Field}
use Rattle.algebra.proofs.Degrees.{coef_zero, coef_add, coef_scale}
use Rattle.bivariate.specs.Degrees.{K[y][x], lift, Within}

module _ {E : Type 0} (R : Ring E) where
  open R use {zero as 𝟘, add as ◌⊕◌, mul as ◌⊙◌}

  infixl 60 ◌⊕◌
  infixl 70 ◌⊙◌
  -- the first w entries, then zeros
  cut : ℕ → Series E → Series E
  cut zero f k = 𝟘
  cut (suc w) f zero = f zero
  cut (suc w) f (suc k) = cut w (tail f) k

  cut_below : (w : ℕ) (f : Series E) → Below R w (cut w f)
  unfolding cut
  cut_below zero f k l = refl
  cut_below (suc w) f zero l = absurd (omega arith)
  cut_below (suc w) f (suc k) l = cut_below w (tail f) k (omega arith)

  cut_at : (w : ℕ) (f : Series E) (k : ℕ) → k < w → cut w f k ≡ f k
  unfolding cut
  cut_at zero f k l = absurd (omega arith)
  cut_at (suc w) f zero l = refl
  cut_at (suc w) f (suc k) l = cut_at w (tail f) k (omega arith)

  cut_add : (w : ℕ) (f g : Series E) (k : ℕ) → cut w (sadd R f g) k ≡ cut w f k ⊕ cut w g k
  unfolding cut
  cut_add zero f g k = sym (add_zero R _)
  cut_add (suc w) f g zero = refl
  cut_add (suc w) f g (suc k) = cut_add w (tail f) (tail g) k

  cut_scale : (w : ℕ) (c : E) (f : Series E) (k : ℕ) → cut w (scale R c f) k ≡ c ⊙ cut w f k
  unfolding cut
  cut_scale zero c f k = sym (mul_zero R c)
  cut_scale (suc w) c f zero = refl
  cut_scale (suc w) c f (suc k) = cut_scale w c (tail f) k

module _ {E : Type 0} (R : Ring E) (eq : Discrete E) where
  -- the first w entries of a vector, as a polynomial
  front : ℕ → Series E → Poly R
  front w f = make R eq w (cut R w f) (cut_below R w f)

  front_is : (w : ℕ) (f : Series E) → (front w f).0 ≡ cut R w f
  unfolding front
  front_is w f = make_is R eq w (cut R w f) (cut_below R w f)

  front_at : (w : ℕ) (f : Series E) (k : ℕ) → k < w → (front w f).0 k ≡ f k
  front_at w f k l = ap (λ h. h k) (front_is w f) ∙ cut_at R w f k l

  front_size : (w : ℕ) (f : Series E) → size R (front w f) ≤ w
  front_size w f = size_least R (front w f) w (rw (front_is w f) (cut_below R w f))

  front_add : (w : ℕ) (f g : Series E) → front w (sadd R f g) ≡ (poly R eq).add (front w f) (front w g)
  front_add w f g = same R eq (fun_ext λ k. ap (λ h. h k) (front_is w _) ∙ cut_add R w f g k ∙ sym (coef_add R eq _ _ k ∙ ap₂ (λ h j. R.add (h k) (j k)) (front_is w f) (front_is w g)))

  front_scale : (w : ℕ) (c : E) (f : Series E) → front w (scale R c f) ≡ (poly R eq).mul (number R eq c) (front w f)
  front_scale w c f = same R eq (fun_ext λ k. ap (λ h. h k) (front_is w _) ∙ cut_scale R w c f k ∙ sym (coef_scale R eq c _ k ∙ ap (λ h. R.mul c (h k)) (front_is w f)))

  -- row i of w entries, where the rows begin at place o
  abbrev rows : ℕ → ℕ → Series E → Series (Poly R)
  rows o w c i = front w (λ j. c (o + i * w + j))

module _ {E : Type 0} (F : Field E) where
  open F use {ring as K, discrete as eq}
  open poly₂ K eq use {zero as 𝟘, add as ◌⊕◌, mul as ◌⊙◌}

  infixl 60 ◌⊕◌
  infixl 70 ◌⊙◌
  -- the polynomial with m rows of w entries, from place o on
  pub box : ℕ → ℕ → ℕ → Series E → K[y][x] F
  box o m w c = front (poly K eq) (poly_discrete K eq) m (rows K eq o w c)

  pub box_size : (o m w : ℕ) (c : Series E) → size (poly K eq) (box o m w c) ≤ m
  unfolding box
  box_size o m w c = front_size (poly K eq) (poly_discrete K eq) m (rows K eq o w c)

  pub box_add : (o m w : ℕ) (c d : Series E) → box o m w (sadd K c d) ≡ box o m w c ⊕ box o m w d
  unfolding box
  box_add o m w c d = ap (front (poly K eq) (poly_discrete K eq) m) (fun_ext λ i. front_add K eq w _ _) ∙ front_add (poly K eq) (poly_discrete K eq) m (rows K eq o w c) (rows K eq o w d)

  pub box_scale : (o m w : ℕ) (t : E) (c : Series E) → box o m w (scale K t c) ≡ lift F (number K eq t) ⊙ box o m w c
  unfolding box
  box_scale o m w t c = ap (front (poly K eq) (poly_discrete K eq) m) (fun_ext λ i. front_scale K eq w t _) ∙ front_scale (poly K eq) (poly_discrete K eq) m (number K eq t) (rows K eq o w c)

  box_row : (o m w : ℕ) (c : Series E) (i : ℕ) → i < m → (box o m w c).0 i ≡ rows K eq o w c i
  unfolding box
  box_row o m w c i l = front_at (poly K eq) (poly_discrete K eq) m (rows K eq o w c) i l

  pub box_within : (o m w : ℕ) (c : Series E) → Within F w (box o m w c)
  box_within o m w c i = go (dec_le (suc i) m)
    where
      go : Dec (i < m) → size K ((box o m w c).0 i) ≤ w
      go (yes l) = rw (box_row o m w c i l) (front_size K eq w _)
      go (no l) = size_least K ((box o m w c).0 i) w (λ k le. ap (λ (p : Poly K). p.0 k) ((box o m w c).1.1.0 i (omega (arith, box_size o m w c))) ∙ coef_zero K eq k)

  -- a box that is zero comes from zeros
  pub box_zero : (o m w : ℕ) (c : Series E) → box o m w c ≡ 𝟘 → (k : ℕ) → k < m * w → c (o + k) ≡ K.zero
  box_zero o m w c e = go m (omega arith)
    where
      entry : (i j : ℕ) → i < m → j < w → c (o + i * w + j) ≡ K.zero
      entry i j li lj =
          sym (front_at K eq w (λ j. c (o + i * w + j)) j lj) ∙ ap (λ (p : Poly K). p.0 j) (sym (box_row o m w c i li) ∙ ap (λ (p : K[y][x] F). p.0 i) e ∙ coef_zero (poly K eq) (poly_discrete K eq) i) ∙ coef_zero K eq j

      go : (n : ℕ) → n ≤ m → (k : ℕ) → k < n * w → c (o + k) ≡ K.zero
      go zero l k lk = absurd (omega arith)
      go (suc n) l k lk = last (dec_le (suc k) (n * w)) (go n (omega arith) k)
        where
          last : Dec (k < n * w) → (k < n * w → c (o + k) ≡ K.zero) → c (o + k) ≡ K.zero
          last (yes p) ih = ih p
          last (no p) ih =
              let j : ℕ = k - n * w in
              let here : o + k ≡ o + n * w + j = omega arith in
              rw here (entry n j (omega arith) (omega arith))
