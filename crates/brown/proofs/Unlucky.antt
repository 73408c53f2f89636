-- How many points can make two polynomials share a divisor. More would give a linear system with more unknowns than equations, and its solution two multiples of the polynomials that cancel, but are too small to.
use Rattle.std.proofs.Common.{◌≡◌, ℕ, zero, suc, ◌+◌, ◌-◌, ◌*◌, ◌<◌, ◌≤◌, ◌⊎◌, List, [], ◌∷◌, length, sym, refl, ap, ◌∙◌, ap₂, inl, inr, mul-le-mul_left, arith}
use native.Mathlib.Decide.{dec_le, ℕ_discrete}
use Rattle.algebra.specs.Ring.{ring, combine, zero_mul, zero_add}
use Rattle.algebra.specs.Solver.{by_ring, quoting}
use Rattle.algebra.specs.Divisors.{Divides}
use Rattle.algebra.specs.Series.{Series, sadd, scale}
use Rattle.algebra.specs.Polynomial.{Poly, poly, poly_discrete, size, size_least, zero?}
use Rattle.algebra.specs.Change.{poly₂, number, at_number, image}
use Rattle.algebra.specs.Field.{Field, field_domain}
use Rattle.algebra.specs.Lists.{All, Distinct}
use Rattle.algebra.proofs.Divisors.{divides_add, divides_eq, divides_mul_left, mul_nonzero}
use Rattle.algebra.proofs.Euclid.{size_zero}
use Rattle.algebra.proofs.Degrees.{coef_zero, coef_add, coef_scale, size_of_zero}
use Rattle.bivariate.specs.Degrees.{K[y][x], lift, Within}
use Rattle.bivariate.specs.TwoUnknowns.{CoprimeInX}
use Rattle.bivariate.proofs.Domain.{divisor_size, domain_y, domain_yx}
use Rattle.bivariate.proofs.Contents.{lift_nonzero}
use Rattle.bivariate.proofs.Width.{within_mul}
use Rattle.brown.specs.Prepared.{at_y}
use Rattle.brown.proofs.Lists.{all_map, all_both}
use Rattle.brown.proofs.Sizes.{sum_size, product_size, number_small, size_nonzero}
use Rattle.brown.proofs.Evaluation.{at_y_lift, at_y_size}
use Rattle.brown.proofs.Interpolation.{agree₂}
use Rattle.brown.proofs.Linear.{Form, Solves, Solution, solution}
use Rattle.brown.proofs.Box.{box, box_size, box_add, box_scale, box_within, box_zero}

module _ {E : Type 0} (F : Field E) where
  open F use {ring as K, discrete as eq}
  open poly K eq use {zero as 𝟘}
  open poly₂ K eq use {zero as 𝟎, add as ◌⊞◌, neg as ⊟◌, mul as ◌⊠◌}

  infixl 60 ◌⊞◌
  infixl 70 ◌⊠◌
  infix 80 ⊟◌
  -- at α they share a divisor that is no constant
  pub record Common (A B : K[y][x] F) (α : E) : Type 0 where
    pub divisor : Poly K
    pub left : Divides (poly K eq) divisor (at_y F α A)
    pub right : Divides (poly K eq) divisor (at_y F α B)
    pub degree : 2 ≤ size K divisor

  -- a constant with a divisor that is none is zero
  constant_zero : (q d : Poly K) → Divides (poly K eq) d q → 2 ≤ size K d → size K q ≤ 1 → q ≡ 𝟘
  constant_zero q d h l m = go (zero? K eq q)
    where
      go : Dec (q ≡ 𝟘) → q ≡ 𝟘
      go (yes z) = z
      go (no n) = let s = divisor_size K eq (field_domain F) d q h n in absurd (omega arith)

  -- a polynomial with as many images that are zero is zero
  vanishes : (αs : List E) (X : K[y][x] F) → Distinct αs → Within F (length αs) X → All (λ α. at_y F α X ≡ 𝟘) αs → X ≡ 𝟎
  vanishes αs X d w z =
      agree₂ F αs X 𝟎 d w (λ k. let e = ap (size K) (coef_zero (poly K eq) (poly_discrete K eq) k) ∙ size_of_zero K eq in omega arith)
      (all_map (λ α e. e ∙ sym (image K eq α).map_zero) αs z)

  -- small multiples of two polynomials that share nothing do not cancel
  no_relation : (A B P Q : K[y][x] F) → CoprimeInX F A B → size (poly K eq) P < size (poly K eq) B → P ⊠ A ⊞ Q ⊠ B ≡ 𝟎 → (P ≡ 𝟎) × (Q ≡ 𝟎)
  no_relation A B P Q c l e = (P_zero, go (zero? (poly K eq) (poly_discrete K eq) Q))
    where
      multiple : Divides (poly₂ K eq) B (P ⊠ lift F c.δ)
      multiple = (P ⊠ c.T ⊞ ⊟ (c.S ⊠ Q), ap (λ X. P ⊠ X) (sym c.combined) ∙ combine (poly₂ K eq) c.S e (by_ring (poly₂ K eq) (P ∷ c.S ∷ A ∷ c.T ∷ B ∷ Q ∷ []) (search quoting depth 30) tt))

      small : size (poly K eq) (P ⊠ lift F c.δ) ≤ size (poly K eq) P
      small = product_size (poly K eq) (poly_discrete K eq) (size (poly K eq) P) 1 (size (poly K eq) P) P (lift F c.δ) (omega arith) (number_small (poly K eq) (poly_discrete K eq) c.δ) (omega arith)

      P_zero : P ≡ 𝟎
      P_zero = zero_if (zero? (poly K eq) (poly_discrete K eq) P)
        where
          zero_if : Dec (P ≡ 𝟎) → P ≡ 𝟎
          zero_if (yes z) = z
          zero_if (no n) = absurd (omega (arith, small, divisor_size (poly K eq) (poly_discrete K eq) (domain_y F) B (P ⊠ lift F c.δ) multiple (mul_nonzero (poly₂ K eq) (domain_yx F) n (lift_nonzero F c.δ c.nonzero))))

      QB : Q ⊠ B ≡ 𝟎
      QB = sym (rw (P_zero, zero_mul (poly₂ K eq) A) (zero_add (poly₂ K eq) (Q ⊠ B))) ∙ e

      go : Dec (Q ≡ 𝟎) → Q ≡ 𝟎
      go (yes z) = z
      go (no n) = absurd (mul_nonzero (poly₂ K eq) (domain_yx F) n (size_nonzero (poly K eq) (poly_discrete K eq) B (omega arith)) QB)

-- the unknowns are the coefficients of P, s rows of a, and of Q, r rows of b
module _ {E : Type 0} (F : Field E) (A B : K[y][x] F) (r s a b : ℕ) where
  open F use {ring as K, discrete as eq}
  open poly K eq use {zero as 𝟘, add as ◌⊕◌, mul as ◌⊙◌}
  open poly₂ K eq use {zero as 𝟎, add as ◌⊞◌, mul as ◌⊠◌}

  infixl 60 ◌⊕◌
  infixl 70 ◌⊙◌
  infixl 60 ◌⊞◌
  infixl 70 ◌⊠◌
  abbrev P : Series E → K[y][x] F
  P c = box F 0 s a c

  abbrev Q : Series E → K[y][x] F
  Q c = box F (s * a) r b c

  -- what is to vanish
  abbrev H : Series E → K[y][x] F
  H c = P c ⊠ A ⊞ Q c ⊠ B

  H_add : (c d : Series E) → H (sadd K c d) ≡ H c ⊞ H d
  H_add c d = ap₂ (λ p q. p ⊠ A ⊞ q ⊠ B) (box_add F 0 s a c d) (box_add F (s * a) r b c d) ∙ law _ _ _ _
    where
      law : (p p' q q' : K[y][x] F) → (p ⊞ p') ⊠ A ⊞ (q ⊞ q') ⊠ B ≡ p ⊠ A ⊞ q ⊠ B ⊞ (p' ⊠ A ⊞ q' ⊠ B)
      law p p' q q' = simp ring

  H_scale : (t : E) (c : Series E) → H (scale K t c) ≡ lift F (number K eq t) ⊠ H c
  H_scale t c = ap₂ (λ p q. p ⊠ A ⊞ q ⊠ B) (box_scale F 0 s a t c) (box_scale F (s * a) r b t c) ∙ law _ _ _
    where
      law : (n p q : K[y][x] F) → n ⊠ p ⊠ A ⊞ n ⊠ q ⊠ B ≡ n ⊠ (p ⊠ A ⊞ q ⊠ B)
      law n p q = simp ring

  -- the coefficient of x^j in H(x, α)
  coefficient : E → ℕ → Form K
  coefficient α j = record { form = λ c. (at_y F α (H c)).0 j; form_add = add; form_scale = mul }
    where
      add : (c d : Series E) → (at_y F α (H (sadd K c d))).0 j ≡ K.add ((at_y F α (H c)).0 j) ((at_y F α (H d)).0 j)
      add c d = ap (λ (q : Poly K). q.0 j) (ap (at_y F α) (H_add c d) ∙ (image K eq α).map_add (H c) (H d)) ∙ coef_add K eq _ _ j

      mul : (t : E) (c : Series E) → (at_y F α (H (scale K t c))).0 j ≡ K.mul t ((at_y F α (H c)).0 j)
      mul t c = ap (λ (q : Poly K). q.0 j) (ap (at_y F α) (H_scale t c) ∙ (image K eq α).map_mul (lift F (number K eq t)) (H c) ∙ ap (λ q. q ⊙ at_y F α (H c)) (at_y_lift F α (number K eq t) ∙ ap (number K eq) (at_number K eq α t))) ∙ coef_scale K eq t _ j

  -- the equations: those of x, .., x^m are zero, at every point
  row : E → ℕ → List (Form K) → List (Form K)
  row α zero l = l
  row α (suc j) l = coefficient α (suc j) ∷ row α j l

  equations : ℕ → List E → List (Form K)
  equations m [] = []
  equations m (α ∷ αs) = row α m (equations m αs)

  length_row : (α : E) (m : ℕ) (l : List (Form K)) → length (row α m l) ≡ m + length l
  unfolding row
  length_row α zero l = omega arith
  length_row α (suc m) l = ap suc (length_row α m l) ∙ omega arith

  length_equations : (m : ℕ) (αs : List E) → length (equations m αs) ≡ length αs * m
  unfolding equations
  length_equations m [] = omega arith
  length_equations m (α ∷ αs) = length_row α m (equations m αs) ∙ ap (λ x. m + x) (length_equations m αs) ∙ omega arith

  abbrev Flat : Series E → ℕ → E → Type 0
  Flat c m α = (j : ℕ) → 0 < j → j ≤ m → (at_y F α (H c)).0 j ≡ K.zero

  row_solved : (c : Series E) (α : E) (m : ℕ) (l : List (Form K)) → Solves K c (row α m l) → Flat c m α × Solves K c l
  unfolding row coefficient
  row_solved c α zero l h = ((λ j p q. absurd (omega arith)), h)
  row_solved c α (suc m) l h = let t = row_solved c α m l h.1 in ((λ j p q. go j p q t.0 (ℕ_discrete j (suc m))), t.1)
    where
      go : (j : ℕ) → 0 < j → j ≤ suc m → Flat c m α → Dec (j ≡ suc m) → (at_y F α (H c)).0 j ≡ K.zero
      go j p q f (yes e) = rw e h.0
      go j p q f (no n) = f j p (omega arith)

  equations_solved : (c : Series E) (m : ℕ) (αs : List E) → Solves K c (equations m αs) → All (Flat c m) αs
  unfolding equations
  equations_solved c m [] h = tt
  equations_solved c m (α ∷ αs) h = let t = row_solved c α m (equations m αs) h in (t.0, equations_solved c m αs t.1)

  -- H(x, α) is a multiple of what is shared
  divides_combined : (c : Series E) (α : E) (w : Common F A B α) → Divides (poly K eq) w.divisor (at_y F α (H c))
  divides_combined c α w =
      divides_eq (poly K eq) (sym ((image K eq α).map_add _ _ ∙ ap₂ ◌⊕◌ ((image K eq α).map_mul _ _) ((image K eq α).map_mul _ _)))
      (divides_add (poly K eq) (divides_mul_left (poly K eq) (at_y F α (P c)) w.left) (divides_mul_left (poly K eq) (at_y F α (Q c)) w.right))

  module _ (m : ℕ) (rs : suc m ≡ r + s) (sA : size (poly K eq) A ≡ suc r) (sB : size (poly K eq) B ≡ suc s) where
    H_size : (c : Series E) → size (poly K eq) (H c) ≤ suc m
    H_size c =
        sum_size (poly K eq) (poly_discrete K eq) (suc m) (P c ⊠ A) (Q c ⊠ B)
        (product_size (poly K eq) (poly_discrete K eq) s (suc r) (suc m) (P c) A (box_size F 0 s a c) (omega arith) (omega arith))
        (product_size (poly K eq) (poly_discrete K eq) r (suc s) (suc m) (Q c) B (box_size F (s * a) r b c) (omega arith) (omega arith))

    -- where something is shared, a solution gives zero
    gone : (c : Series E) (α : E) → Flat c m α → Common F A B α → at_y F α (H c) ≡ 𝟘
    gone c α f w = constant_zero F (at_y F α (H c)) w.divisor (divides_combined c α w) w.degree (size_least K (at_y F α (H c)) 1 λ k l. go k l (dec_le k m))
      where
        go : (k : ℕ) → 1 ≤ k → Dec (k ≤ m) → (at_y F α (H c)).0 k ≡ K.zero
        go k l (yes p) = f k l p
        go k l (no p) = (at_y F α (H c)).1.1.0 k (omega (arith, at_y_size F α (H c), H_size c))

    module _ (αs : List E) (t u : ℕ) (wA : Within F (suc t) A) (wB : Within F (suc u) B) (fitA : (a + t ≤ length αs) ⊎ (s ≡ 0)) (fitB : (b + u ≤ length αs) ⊎ (r ≡ 0)) where
      -- a product whose first factor has n rows of w
      product_within : (X Y : K[y][x] F) (n w d : ℕ) → size (poly K eq) X ≤ n → Within F w X → Within F (suc d) Y → (w + d ≤ length αs) ⊎ (n ≡ 0) → Within F (length αs) (X ⊠ Y)
      product_within X Y n w d l lX lY (inl h) k = within_mul F w (suc d) (length αs) X Y lX lY (omega arith) k
      product_within X Y n w d l lX lY (inr h) k =
          let z : X ≡ 𝟎 = size_zero (poly K eq) (poly_discrete K eq) X (omega arith) in
          rw (z, zero_mul (poly₂ K eq) Y, coef_zero (poly K eq) (poly_discrete K eq) k, size_of_zero K eq) (omega arith)

      H_within : (c : Series E) → Within F (length αs) (H c)
      H_within c k =
          rw (coef_add (poly K eq) (poly_discrete K eq) (P c ⊠ A) (Q c ⊠ B) k)
          (sum_size K eq (length αs) ((P c ⊠ A).0 k) ((Q c ⊠ B).0 k)
          (product_within (P c) A s a t (box_size F 0 s a c) (box_within F 0 s a c) wA fitA k)
          (product_within (Q c) B r b u (box_size F (s * a) r b c) (box_within F (s * a) r b c) wB fitB k))

      too_many : CoprimeInX F A B → Distinct αs → All (Common F A B) αs → length αs * m < s * a + r * b → ⊥
      too_many co d w l = x.nonzero (here (dec_le (suc x.place) (s * a)))
        where
          x : Solution F (s * a + r * b) (equations m αs)
          x = solution F (s * a + r * b) (equations m αs) (rw (length_equations m αs) l)

          c : Series E
          c = x.vector

          H_zero : H c ≡ 𝟎
          H_zero = vanishes F αs (H c) d (H_within c) (all_both (gone c) αs (equations_solved c m αs x.solves) w)

          PQ_zero : (P c ≡ 𝟎) × (Q c ≡ 𝟎)
          PQ_zero = no_relation F A B (P c) (Q c) co (omega (arith, box_size F 0 s a c)) H_zero

          here : Dec (x.place < s * a) → c x.place ≡ K.zero
          here (yes p) = let e : 0 + x.place ≡ x.place = omega arith in rw e at (box_zero F 0 s a c PQ_zero.0 x.place p)
          here (no p) =
              let i = x.inside in
              let e : s * a + (x.place - s * a) ≡ x.place = omega arith in
              rw e at (box_zero F (s * a) r b c PQ_zero.1 (x.place - s * a) (omega arith))

-- n (r + s - 1) equations, and s (n - t) + r (n - u) unknowns
more_unknowns : (n m r s t u a b : ℕ) → suc m ≡ r + s → n ≤ a + t → n ≤ b + u → r * u + s * t < n → n * m < s * a + r * b
more_unknowns n m r s t u a b e la lb l =
    let h : n * suc m ≡ n * (r + s) = ap (λ x. n * x) e in
    let p : s * n ≤ s * (a + t) = mul-le-mul_left s la in
    let q : r * n ≤ r * (b + u) = mul-le-mul_left r lb in
    omega arith

module _ {E : Type 0} (F : Field E) (A B : K[y][x] F) (r s t u : ℕ) (sA : size (poly F.ring F.discrete) A ≡ suc r) (sB : size (poly F.ring F.discrete) B ≡ suc s) (wA : Within F (suc t) A) (wB : Within F (suc u) B) (co : CoprimeInX F A B) where
  open F use {ring as K, discrete as eq}

  not_free : 0 < r + s → (αs : List E) → Distinct αs → All (Common F A B) αs → length αs ≤ r * u + s * t
  not_free rs αs d w = go (dec_le (length αs) (r * u + s * t))
    where
      n : ℕ
      n = length αs

      fit : (s t k : ℕ) → k + s * t < n → (n - t + t ≤ n) ⊎ (s ≡ 0)
      fit zero t k l = inr refl
      fit (suc s) t k l = inl (omega arith)

      go : Dec (n ≤ r * u + s * t) → n ≤ r * u + s * t
      go (yes l) = l
      go (no l) =
          let more : r * u + s * t < n = omega arith in
          absurd (too_many F A B r s (n - t) (n - u) (r + s - 1) (omega arith) sA sB αs t u wA wB (fit s t (r * u) more) (fit r u (s * t) (omega arith)) co d w (more_unknowns n (r + s - 1) r s t u (n - t) (n - u) (omega arith) (omega arith) (omega arith) more))

  -- at most r u + s t points make A and B, of which the first has no image that is zero, share a divisor
  pub common_bound : ((α : E) → ¬ (at_y F α A ≡ (poly K eq).zero)) → (αs : List E) → Distinct αs → All (Common F A B) αs → length αs ≤ r * u + s * t
  common_bound nA [] d w = omega arith
  common_bound nA (α ∷ αs) d w = go (dec_le 1 (r + s)) w.0
    where
      go : Dec (0 < r + s) → Common F A B α → length (α ∷ αs) ≤ r * u + s * t
      go (yes l) v = not_free l (α ∷ αs) d w
      go (no l) v = absurd (nA α (constant_zero F (at_y F α A) v.divisor v.left v.degree (omega (arith, at_y_size F α A))))
