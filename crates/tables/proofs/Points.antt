-- The product of y − α over the first points α: its degree, its roots, and where else it is zero.
use Rattle.std.proofs.Common.{◌≡◌, ℕ, zero, suc, ◌+◌, ◌<◌, true, ◌≢◌, ◌⊎◌, List, [], ◌∷◌, length, get_or, sym, refl, ap, ◌∙◌, inl, inr, add-one, arith}
use Rattle.std.proofs.lemmas.Bool.{cond-true, cases_eq}
use Rattle.coefficients.specs.Arithmetic.{Arithmetic, Laws, IsField}
use Rattle.algebra.specs.Ring.{add_neg, mul_zero, zero_mul, sub_zero→eq}
use Rattle.algebra.specs.Bounded.{Below, one_below, below_cons}
use Rattle.algebra.specs.Polynomial.{Poly, of_one, at, evaluate}
use Rattle.algebra.specs.Change.{linear, of_linear, at_linear}
use Rattle.algebra.specs.Field.{field_domain}
use Rattle.algebra.specs.Lists.{All, Distinct}
use Rattle.algebra.proofs.Degrees.{below_product}
use Rattle.polynomials.specs.Elements.{Element, element_discrete, elements, field, read, polynomials}
use Rattle.polynomials.specs.Rows.{Inside}

-- codes at different places of a list without repetition differ
pub distinct_at : (l : List ℕ) → Distinct l → (j k : ℕ) → j < k → k < length l → get_or l k 0 ≡ get_or l j 0 → ⊥
distinct_at [] d j k lt h e = absurd (omega arith)
distinct_at (a ∷ l) d j zero lt h e = absurd (omega arith)
distinct_at (a ∷ l) d zero (suc k) lt h e = all_at l d.0 k (omega arith) e
  where
    all_at : (l : List ℕ) → All (λ b. ¬ (b ≡ a)) l → (k : ℕ) → k < length l → get_or l k 0 ≡ a → ⊥
    all_at [] p k h e = absurd (omega arith)
    all_at (b ∷ l) p zero h e = p.0 e
    all_at (b ∷ l) p (suc k) h e = all_at l p.1 k (omega arith) e
distinct_at (a ∷ l) d (suc j) (suc k) lt h e = distinct_at l d.1 j k (omega arith) (omega arith) e

module _ {K : Arithmetic} (laws : Laws K) where
  pub code_read : (c : ℕ) → K.element c ≡ true → (read laws c).0 ≡ c
  code_read c h = cond-true _ _ _ h

  module _ (ps : List ℕ) where
    open elements laws use {zero as 𝟘, one as 𝟙, add as ◌⊕◌, neg as ⊖◌, mul as ◌⊙◌}
    open polynomials laws use {one as I, mul as ◌⋆◌}

    infixl 60 ◌⊕◌
    infixl 70 ◌⊙◌
    infix 80 ⊖◌
    infixl 70 ◌⋆◌
    -- the k-th point
    abbrev pub point : ℕ → Element K
    point k = read laws (get_or ps k 0)

    abbrev value : Element K → Poly (elements laws) → Element K
    value = at (elements laws) (element_discrete K)

    unfoldable pub product : ℕ → Poly (elements laws)
    product zero = I
    product (suc k) = linear (elements laws) (element_discrete K) (point k) ⋆ product k

    pub product_more : (k : ℕ) → product (k + 1) ≡ linear (elements laws) (element_discrete K) (point k) ⋆ product k
    unfolding product
    product_more k = rw add-one refl

    pub product_below : (k : ℕ) → Below (elements laws) (suc k) (product k).0
    unfolding product
    product_below zero = rw (of_one (elements laws) (element_discrete K)) (one_below (elements laws))
    product_below (suc k) = below_product (elements laws) (element_discrete K) 2 (suc k) (suc (suc k)) _ _ (rw (of_linear (elements laws) (element_discrete K) (point k)) (below_cons (elements laws) 1 _ _ (one_below (elements laws)))) (product_below k) (omega arith)

    value_more : (x : Element K) (k : ℕ) → value x (product (suc k)) ≡ (x ⊕ ⊖ point k) ⊙ value x (product k)
    unfolding product evaluate
    value_more x k = (evaluate (elements laws) (element_discrete K) x).map_mul _ _ ∙ ap (λ d. d ⊙ value x (product k)) (at_linear (elements laws) (element_discrete K) x (point k))

    -- the points are roots
    pub product_root : (k j : ℕ) → j < k → value (point j) (product k) ≡ 𝟘
    product_root zero j lt = absurd (omega arith)
    product_root (suc k) j lt = value_more (point j) k ∙ go (product_root k j) (cases_eq j k)
      where
        go : (j < k → value (point j) (product k) ≡ 𝟘) → (j ≡ k) ⊎ (j ≢ k) → (point j ⊕ ⊖ point k) ⊙ value (point j) (product k) ≡ 𝟘
        go ih (inl e) = ap (λ d. d ⊙ value (point j) (product k)) (ap (λ i. point i ⊕ ⊖ point k) e ∙ add_neg (elements laws) (point k)) ∙ zero_mul (elements laws) _
        go ih (inr ne) = ap (λ v. (point j ⊕ ⊖ point k) ⊙ v) (ih (omega arith)) ∙ mul_zero (elements laws) _

    -- over a field there is no other root
    pub product_nonzero : IsField K → (x : Element K) (k : ℕ) → ((j : ℕ) → j < k → ¬ (x ≡ point j)) → ¬ (value x (product k) ≡ 𝟘)
    unfolding product evaluate elements field
    product_nonzero only x zero ne z = laws.apart (ap (λ (a : Element K). a.0) (sym z ∙ (evaluate (elements laws) (element_discrete K) x).map_one))
    product_nonzero only x (suc k) ne z = go (product_nonzero only x k (λ j lt. ne j (omega arith))) ((field_domain (field laws only)).cancel _ _ tt tt (sym (value_more x k) ∙ z))
      where
        go : ¬ (value x (product k) ≡ 𝟘) → (x ⊕ ⊖ point k ≡ 𝟘) ⊎ (value x (product k) ≡ 𝟘) → ⊥
        go ih (inl e) = ne k (omega arith) (sub_zero→eq (elements laws) x (point k) e)
        go ih (inr e) = ih e

    -- .. so that none of different points is a root of the product over those before it
    pub next_nonzero : IsField K → Inside K ps → Distinct ps → (k : ℕ) → k < length ps → ¬ (value (point k) (product k) ≡ 𝟘)
    next_nonzero only h d k lt = product_nonzero only (point k) k λ j l e. distinct_at ps d j k l lt (sym (code_read _ (h k lt)) ∙ ap (λ (a : Element K). a.0) e ∙ code_read _ (h j (omega arith)))
