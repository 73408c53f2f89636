-- Sizes and leading coefficients of polynomials over a ring.
use Rattle.std.proofs.Common.{◌≡◌, ℕ, suc, ◌+◌, ◌<◌, ◌≤◌, sym, ap, ◌∙◌, ap₂, arith}
use mathlib.Core.HLevel.{Discrete}
use Rattle.algebra.specs.Ring.{Ring, ring, add_zero, mul_one, one_mul}
use Rattle.algebra.specs.Divisors.{Divides}
use Rattle.algebra.specs.Bounded.{Below}
use Rattle.algebra.specs.Polynomial.{Poly, poly, size, size_least, size_unique}
use Rattle.algebra.specs.Change.{number, number_one, number_mul}
use Rattle.algebra.specs.Field.{Field, field_domain}
use Rattle.algebra.specs.Lead.{lead, Monic}
use Rattle.algebra.proofs.Degrees.{leading, lead_at, lead_product, constant_is, size_product, size_of_zero, below_size, below_product, below_difference, coef_add, number_below}
use Rattle.algebra.proofs.OneUnknown.{monics}
use Rattle.bivariate.specs.Degrees.{deg}
use Rattle.bivariate.proofs.Domain.{left_nonzero, right_nonzero, size_deg}

module _ {E : Type 0} (R : Ring E) (eq : Discrete E) where
  open poly R eq use {zero as 𝟘, one as 𝟙, add as ◌⊕◌, neg as ⊖◌, mul as ◌⊙◌}

  infixl 60 ◌⊕◌
  infixl 70 ◌⊙◌
  infix 80 ⊖◌
  pub size_nonzero : (p : Poly R) → 0 < size R p → ¬ (p ≡ 𝟘)
  size_nonzero p l e = let z = ap (size R) e ∙ size_of_zero R eq in absurd (omega arith)

  pub sum_size : (n : ℕ) (p q : Poly R) → size R p ≤ n → size R q ≤ n → size R (p ⊕ q) ≤ n
  sum_size n p q l m = size_least R (p ⊕ q) n (λ k le. coef_add R eq p q k ∙ ap₂ R.add (below_size R eq p n l k le) (below_size R eq q n m k le) ∙ add_zero R _)

  pub difference_size : (n : ℕ) (p q : Poly R) → size R p ≤ n → size R q ≤ n → size R (p ⊕ ⊖ q) ≤ n
  difference_size n p q l m = size_least R (p ⊕ ⊖ q) n (below_difference R eq n p q (below_size R eq p n l) (below_size R eq q n m))

  pub product_size : (m n k : ℕ) (p q : Poly R) → size R p ≤ m → size R q ≤ n → m + n ≤ suc k → size R (p ⊙ q) ≤ k
  product_size m n k p q l r le = size_least R (p ⊙ q) k (below_product R eq m n k p q (below_size R eq p m l) (below_size R eq q n r) le)

  pub number_small : (c : E) → size R (number R eq c) ≤ 1
  number_small c = size_least R (number R eq c) 1 (number_below R eq c)

  -- the size, from a bound and a coefficient that is not zero
  pub size_is : (p : Poly R) (n : ℕ) → Below R (suc n) p.0 → ¬ (p.0 n ≡ R.zero) → size R p ≡ suc n
  size_is p n b t = size_unique R p.0 (size R p) (suc n) p.1.1.0 p.1.1.1 b t

  pub lead_nonzero : (p : Poly R) → ¬ (p ≡ 𝟘) → ¬ (lead R p ≡ R.zero)
  lead_nonzero p n z = let l = leading R eq p n in l.nonzero (sym (lead_at R eq p l.deg l.is_size) ∙ z)

module _ {E : Type 0} (F : Field E) where
  open F use {ring as K, discrete as eq}
  open poly K eq use {zero as 𝟘, mul as ◌⊙◌}

  infixl 70 ◌⊙◌
  pub monic_lead : (p : Poly K) → Monic K p → lead K p ≡ K.one
  monic_lead p (m, s, e) = lead_at K eq p m s ∙ e

  pub lead_monic : (p : Poly K) → ¬ (p ≡ 𝟘) → lead K p ≡ K.one → Monic K p
  lead_monic p n e = (deg F p, size_deg F p n, e)

  -- what a monic polynomial makes monic is monic
  pub factor_monic : (p q r : Poly K) → p ≡ q ⊙ r → Monic K p → Monic K r → Monic K q
  factor_monic p q r e m n =
      lead_monic q (left_nonzero (poly K eq) e ((monics F).nonzero p m))
      (sym (mul_one K _) ∙ ap (K.mul (lead K q)) (sym (monic_lead r n)) ∙ sym (lead_product K eq (field_domain F) q r) ∙ ap (lead K) (sym e) ∙ monic_lead p m)

  -- a divisor of a monic polynomial of the same size differs from it by its leading coefficient
  pub scaled : (d p : Poly K) → Divides (poly K eq) d p → size K d ≡ size K p → Monic K p → d ≡ number K eq (lead K d) ⊙ p
  scaled d p (c, e) s m =
      let n = (monics F).nonzero p m in
      let nc = right_nonzero (poly K eq) e n in
      let t = size_product K eq (field_domain F) d c (left_nonzero (poly K eq) e n) nc in
      let i = ap (size K) e in
      let j = size_deg F p n in
      let one_term : size K c ≡ 1 = omega arith in
      let c_is : c ≡ number K eq (c.0 0) = constant_is K eq c (omega arith) in
      let unit : K.mul (lead K d) (c.0 0) ≡ K.one = ap (K.mul (lead K d)) (sym (lead_at K eq c 0 one_term)) ∙ sym (lead_product K eq (field_domain F) d c) ∙ ap (lead K) (sym e) ∙ monic_lead p m in
      sym (ap (λ x. number K eq (lead K d) ⊙ x) (e ∙ ap (λ x. d ⊙ x) c_is) ∙ law _ _ _ ∙ ap (λ x. x ⊙ d) (sym (number_mul K eq (lead K d) (c.0 0)) ∙ ap (number K eq) unit ∙ number_one K eq) ∙ one_mul (poly K eq) d)
    where
      law : (h d c : Poly K) → h ⊙ (d ⊙ c) ≡ h ⊙ c ⊙ d
      law h d c = simp ring
