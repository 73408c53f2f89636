-- The theorem on degrees in x and in y: the size in y of a product is found by its coefficients of the highest power of y.
use Rattle.std.proofs.Common.{◌≡◌, ℕ, zero, suc, ◌+◌, ◌<◌, ◌≤◌, max, sym, ap, ◌∙◌, ap₂, ⊎_elim, arith}
use mathlib.Core.Path.{fun_ext}
use native.Mathlib.Decide.{dec_le, ℕ_discrete}
use Rattle.algebra.specs.Ring.{add_zero}
use Rattle.algebra.specs.Series.{Series, series, tail, at_zero, at_add, at_mul, at_mul_suc}
use Rattle.algebra.specs.Bounded.{Below, Any, Polynomial, polynomials, below_at, lead}
use Rattle.algebra.specs.Polynomial.{Poly, poly, poly_discrete, same, size, size_least, of_add, of_mul}
use Rattle.algebra.specs.Change.{poly₂}
use Rattle.algebra.specs.Field.{Field, field_domain}
use Rattle.algebra.proofs.Divisors.{mul_nonzero}
use Rattle.algebra.proofs.Euclid.{size_zero}
use Rattle.algebra.proofs.Degrees.{leading, size_of_zero, coef_zero, number_coef, number_below, lead_product}
use Rattle.bivariate.specs.Degrees.{largest, K[y], K[y][x], lift, deg_x, Within, width, deg_y}
use Rattle.bivariate.specs.TwoUnknowns.{Degrees}
use Rattle.bivariate.proofs.Domain.{suc_pred, domain_y, domain_yx, size_deg_x, size_x_product}

largest_ge : (n : ℕ) (f : ℕ → ℕ) (k : ℕ) → k < n → f k ≤ largest n f
unfolding largest
largest_ge zero f k l = absurd (omega arith)
largest_ge (suc n) f k l = go (largest_ge n f k) (ℕ_discrete k n)
  where
    go : (k < n → f k ≤ largest n f) → Dec (k ≡ n) → f k ≤ max (f n) (largest n f)
    go ih (yes e) = rw e (omega arith)
    go ih (no ne) = let i = ih (omega arith) in omega arith

largest_le : (n : ℕ) (f : ℕ → ℕ) (m : ℕ) → ((k : ℕ) → f k ≤ m) → largest n f ≤ m
unfolding largest
largest_le zero f m h = omega arith
largest_le (suc n) f m h = let a = h n in let b = largest_le n f m h in omega arith

largest_at : (n : ℕ) (f : ℕ → ℕ) (m : ℕ) → suc m ≤ largest n f → (k : ℕ) × (suc m ≤ f k)
unfolding largest
largest_at zero f m l = absurd (omega arith)
largest_at (suc n) f m l = go (largest_at n f m) (dec_le (suc m) (f n))
  where
    go : (suc m ≤ largest n f → (k : ℕ) × (suc m ≤ f k)) → Dec (suc m ≤ f n) → (k : ℕ) × (suc m ≤ f k)
    go ih (yes e) = (n, e)
    go ih (no ne) = ih (omega arith)

module _ {E : Type 0} (F : Field E) where
  open F use {ring as K, discrete as eq}
  open poly K eq use {zero as 𝟘, add as ◌⊕◌, mul as ◌⊙◌}
  open poly₂ K eq use {zero as 𝟎, mul as ◌⊠◌}

  infixl 60 ◌⊕◌
  infixl 70 ◌⊙◌
  infixl 70 ◌⊠◌
  past : (A : K[y][x] F) (k : ℕ) → size (poly K eq) A ≤ k → size K (A.0 k) ≡ 0
  past A k l = ap (size K) (A.1.1.0 k l) ∙ size_of_zero K eq

  pub within_width : (A : K[y][x] F) → Within F (width F A) A
  unfolding width
  within_width A k = go (dec_le (size (poly K eq) A) k)
    where
      go : Dec (size (poly K eq) A ≤ k) → size K (A.0 k) ≤ largest (size (poly K eq) A) (λ k. size K (A.0 k))
      go (yes l) = let z = past A k l in omega arith
      go (no l) = largest_ge (size (poly K eq) A) (λ k. size K (A.0 k)) k (omega arith)

  pub width_least : (A : K[y][x] F) (n : ℕ) → Within F n A → width F A ≤ n
  unfolding width
  width_least A n h = largest_le (size (poly K eq) A) (λ k. size K (A.0 k)) n h

  width_zero : (A : K[y][x] F) → width F A ≡ 0 → A ≡ 𝟎
  width_zero A e = same (poly K eq) (poly_discrete K eq) (fun_ext (λ k. let l = within_width A k in size_zero K eq (A.0 k) (omega arith) ∙ sym (coef_zero (poly K eq) (poly_discrete K eq) k)))

  -- of a polynomial that is not zero the width is one more than the degree in y
  pub width_deg : (A : K[y][x] F) → ¬ (A ≡ 𝟎) → width F A ≡ suc (deg_y F A)
  width_deg A n = suc_pred (width F A) (λ e. n (width_zero A e))

  -- the coefficients of y^m
  abbrev slice : ℕ → Series (Poly K) → Series E
  slice m f k = (f k).0 m

  slice_mul : (m n : ℕ) (f g : Series (Poly K)) → ((k : ℕ) → Below K (suc m) (f k).0) → ((k : ℕ) → Below K (suc n) (g k).0) → (k : ℕ) → ((series (poly K eq)).mul f g k).0 (m + n) ≡ (series K).mul (slice m f) (slice n g) k
  slice_mul m n f g p q zero = ap (λ (h : Poly K). h.0 (m + n)) (at_mul (poly K eq) f g) ∙ ap (λ h. h (m + n)) (of_mul K eq (f 0) (g 0)) ∙ lead K m n (f 0).0 (g 0).0 (p 0) (q 0) ∙ sym (at_mul K (slice m f) (slice n g))
  slice_mul m n f g p q (suc k) =
      ap (λ (h : Poly K). h.0 (m + n)) (at_mul_suc (poly K eq) f g k) ∙ ap (λ h. h (m + n)) (of_add K eq (f 0 ⊙ g (suc k)) ((series (poly K eq)).mul (tail f) g k)) ∙ at_add K _ _ (m + n)
      ∙ ap₂ K.add (ap (λ h. h (m + n)) (of_mul K eq (f 0) (g (suc k))) ∙ lead K m n (f 0).0 (g (suc k)).0 (p 0) (q (suc k))) (slice_mul m n (tail f) g (λ j. p (suc j)) q k)
      ∙ sym (at_mul_suc K (slice m f) (slice n g) k)

  bound_mul : (m n : ℕ) (f g : Series (Poly K)) → ((k : ℕ) → Below K m (f k).0) → ((k : ℕ) → Below K n (g k).0) → (k j : ℕ) → m + n ≤ suc j → ((series (poly K eq)).mul f g k).0 j ≡ K.zero
  bound_mul m n f g p q zero j l = ap (λ (h : Poly K). h.0 j) (at_mul (poly K eq) f g) ∙ ap (λ h. h j) (of_mul K eq (f 0) (g 0)) ∙ below_at K m n (f 0).0 (g 0).0 (p 0) (q 0) j l
  bound_mul m n f g p q (suc k) j l =
      ap (λ (h : Poly K). h.0 j) (at_mul_suc (poly K eq) f g k) ∙ ap (λ h. h j) (of_add K eq (f 0 ⊙ g (suc k)) ((series (poly K eq)).mul (tail f) g k)) ∙ at_add K _ _ j
      ∙ ap₂ K.add (ap (λ h. h j) (of_mul K eq (f 0) (g (suc k))) ∙ below_at K m n (f 0).0 (g (suc k)).0 (p 0) (q (suc k)) j l) (bound_mul m n (tail f) g (λ i. p (suc i)) q k j l) ∙ add_zero K _

  within_below : (n : ℕ) (A : K[y][x] F) → Within F n A → (k : ℕ) → Below K n (A.0 k).0
  within_below n A h k j l = let s = h k in (A.0 k).1.1.0 j (omega arith)

  mul_is : (A B : K[y][x] F) (k : ℕ) → (A ⊠ B).0 k ≡ (series (poly K eq)).mul A.0 B.0 k
  mul_is A B k = ap (λ h. h k) (of_mul (poly K eq) (poly_discrete K eq) A B)

  pub within_mul : (m n t : ℕ) (A B : K[y][x] F) → Within F m A → Within F n B → m + n ≤ suc t → Within F t (A ⊠ B)
  within_mul m n t A B p q l k = size_least K ((A ⊠ B).0 k) t (λ j le. ap (λ (h : Poly K). h.0 j) (mul_is A B k) ∙ bound_mul m n A.0 B.0 (within_below m A p) (within_below n B q) k j (omega arith))

  slice_nonzero : (A : K[y][x] F) (m : ℕ) → width F A ≡ suc m → ¬ (slice m A.0 ≡ (series K).zero)
  unfolding width
  slice_nonzero A m e z = go (largest_at (size (poly K eq) A) (λ k. size K (A.0 k)) m (omega arith))
    where
      go : (k : ℕ) × (suc m ≤ size K (A.0 k)) → ⊥
      go (k, l) =
          let u = within_width A k in
          let v : width F A ≡ suc m = e in
          let n : ¬ (A.0 k ≡ 𝟘) = λ i. let j = ap (size K) i ∙ size_of_zero K eq in absurd (omega arith) in
          let t = leading K eq (A.0 k) n in
          let i = t.is_size in
          let top : m ≡ t.deg = omega arith in
          t.nonzero (ap (A.0 k).0 (sym top) ∙ ap (λ h. h k) z ∙ at_zero K k)

  slice_bounded : (A : K[y][x] F) (m : ℕ) → Polynomial K Any (slice m A.0)
  slice_bounded A m = (λ k. tt, (size (poly K eq) A, λ k l. ap (λ (h : Poly K). h.0 m) (A.1.1.0 k l) ∙ coef_zero K eq m))

  -- the coefficients of y^(m + n) in the product are not all zero
  tall : (A B : K[y][x] F) (m n : ℕ) → width F A ≡ suc m → width F B ≡ suc n → ¬ (width F (A ⊠ B) ≤ m + n)
  tall A B m n ea eb l = ⊎_elim (slice_nonzero A m ea) (slice_nonzero B n eb) ((polynomials K (field_domain F)).cancel _ _ (slice_bounded A m) (slice_bounded B n) (fun_ext none))
    where
      none : (k : ℕ) → (series K).mul (slice m A.0) (slice n B.0) k ≡ (series K).zero k
      none k =
          sym (slice_mul m n A.0 B.0 (within_below (suc m) A (rw ea at (within_width A))) (within_below (suc n) B (rw eb at (within_width B))) k)
          ∙ ap (λ (h : Poly K). h.0 (m + n)) (sym (mul_is A B k))
          ∙ within_below (m + n) (A ⊠ B) (λ j. let w = within_width (A ⊠ B) j in omega arith) k (m + n) (omega arith)
          ∙ sym (at_zero K k)

  pub width_mul : (A B : K[y][x] F) → ¬ (A ≡ 𝟎) → ¬ (B ≡ 𝟎) → suc (width F (A ⊠ B)) ≡ width F A + width F B
  width_mul A B nA nB =
      let a = width_deg A nA in
      let b = width_deg B nB in
      let low = tall A B (deg_y F A) (deg_y F B) a b in
      let upper = width_least (A ⊠ B) (suc (deg_y F A + deg_y F B)) (within_mul (width F A) (width F B) _ A B (within_width A) (within_width B) (omega arith)) in
      omega arith

  product_nonzero : (A B : K[y][x] F) → ¬ (A ≡ 𝟎) → ¬ (B ≡ 𝟎) → ¬ (A ⊠ B ≡ 𝟎)
  product_nonzero A B = mul_nonzero (poly₂ K eq) (domain_yx F)

  deg_y_mul : (A B : K[y][x] F) → ¬ (A ≡ 𝟎) → ¬ (B ≡ 𝟎) → deg_y F (A ⊠ B) ≡ deg_y F A + deg_y F B
  deg_y_mul A B nA nB =
      let s = width_mul A B nA nB in
      let a = width_deg A nA in
      let b = width_deg B nB in
      let c = width_deg (A ⊠ B) (product_nonzero A B nA nB) in
      omega arith

  deg_x_mul : (A B : K[y][x] F) → ¬ (A ≡ 𝟎) → ¬ (B ≡ 𝟎) → deg_x F (A ⊠ B) ≡ deg_x F A + deg_x F B
  deg_x_mul A B nA nB =
      let s = size_x_product F A B nA nB in
      let a = size_deg_x F A nA in
      let b = size_deg_x F B nB in
      let c = size_deg_x F (A ⊠ B) (product_nonzero A B nA nB) in
      omega arith

  -- the width of a polynomial in y is its size
  pub lift_within : (c : K[y] F) (n : ℕ) → size K c ≤ n → Within F n (lift F c)
  lift_within c n l zero = rw (number_coef (poly K eq) (poly_discrete K eq) c) l
  lift_within c n l (suc k) = rw (number_below (poly K eq) (poly_discrete K eq) c (suc k) (omega arith), size_of_zero K eq) (omega arith)

  pub lift_width : (c : K[y] F) → width F (lift F c) ≡ size K c
  lift_width c =
      let u = width_least (lift F c) (size K c) (lift_within c (size K c) (omega arith)) in
      let v = within_width (lift F c) 0 in
      let e = ap (size K) (number_coef (poly K eq) (poly_discrete K eq) c) in
      omega arith

  pub degrees : Degrees F
  degrees = record {
    in_x = deg_x_mul;
    in_y = deg_y_mul;
    leads = lead_product (poly K eq) (poly_discrete K eq) (domain_y F);
    width_least = λ A n. (λ l k. let w = within_width A k in omega arith, width_least A n);
  }
