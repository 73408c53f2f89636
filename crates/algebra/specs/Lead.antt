-- The leading coefficient of a polynomial, and polynomials whose leading coefficient is one.
use Rattle.std.specs.Prelude.{◌≡◌, ℕ, suc, pred}
use Rattle.algebra.specs.Ring.{Ring}
use Rattle.algebra.specs.Polynomial.{Poly, size}

module _ {E : Type 0} (R : Ring E) where
  -- the coefficient of the highest power, and zero of zero
  abbrev pub lead : Poly R → E
  lead p = p.0 (pred (size R p))

  -- p is not zero, and its leading coefficient has the property M
  abbrev pub LeadIs : (E → Type 0) → Poly R → Type 0
  LeadIs M p = (m : ℕ) × (size R p ≡ suc m) × M (p.0 m)

  -- its leading coefficient is one
  abbrev pub Monic : Poly R → Type 0
  Monic = LeadIs (λ a. a ≡ R.one)

  -- its leading coefficient is one, unless it is zero
  abbrev pub Normal : Poly R → Type 0
  Normal p = ¬ (size R p ≡ 0) → Monic p
