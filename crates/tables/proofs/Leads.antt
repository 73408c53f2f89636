-- The leading row of a table, and the greatest common divisor of two.
use Rattle.std.proofs.Common.{◌≡◌, ℕ, pred, ◌-◌, List, Ok, Err, Result, sym, ap, ◌∙◌, subst, arith}
use Rattle.coefficients.specs.Arithmetic.{Arithmetic, Laws}
use Rattle.coefficients.specs.declared.kind.ReciprocalFault.{ReciprocalFault}
use Rattle.algebra.specs.Divisors.{Greatest}
use Rattle.algebra.specs.Lead.{lead}
use Rattle.algebra.specs.Polynomial.{Poly, size}
use Rattle.polynomials.specs.Elements.{elements, polynomial, polynomials, polynomial_xy}
use Rattle.polynomials.specs.Rows.{Inside, cut_row}
use Rattle.polynomials.specs.Steps.{Common}
use Rattle.tables.specs.Degrees.{SizeX}
use Rattle.tables.specs.Lead.{LeadRow, SharedLeads}
use Rattle.tables.proofs.Sizes.{row_inside, of_rows}

-- the row below the size in x, or the first where that is 0
pub lead_row : (K : Arithmetic) (w : ℕ) (t : List ℕ) (n i : ℕ) → SizeX K w t n → i ≡ n - 1 → LeadRow K w t (cut_row w t i)
lead_row K w t n i s at h = (row_inside K w t i h, λ lw. sym (of_rows lw w t i) ∙ ap (polynomial_xy lw w t).0 (place lw))
  where
    place : (lw : Laws K) → i ≡ pred (size (polynomials lw) (polynomial_xy lw w t))
    place lw = let z = s h lw in omega arith

module _ (K : Arithmetic) (w : ℕ) (a b f g d e : List ℕ) (u : LeadRow K w a f) (v : LeadRow K w b g) where
  pub shared_leads : (r : Result ℕ ReciprocalFault) → Common K f g d e r → SharedLeads K w a b d r
  shared_leads (Ok n) c = λ ha hb.
      let told = c (u ha).0 (v hb).0 in
      (told.0, told.2, λ lw. record { greatest = moved lw ha hb (told.3 lw).greatest; normal = (told.3 lw).normal })
    where
      moved : (lw : Laws K) → Inside K a → Inside K b → Greatest (polynomials lw) (polynomial lw f) (polynomial lw g) (polynomial lw d) → Greatest (polynomials lw) (lead (polynomials lw) (polynomial_xy lw w a)) (lead (polynomials lw) (polynomial_xy lw w b)) (polynomial lw d)
      moved lw ha hb h =
          subst (λ (x : Poly (elements lw)). Greatest (polynomials lw) x (lead (polynomials lw) (polynomial_xy lw w b)) (polynomial lw d)) ((u ha).1 lw)
          (subst (λ (y : Poly (elements lw)). Greatest (polynomials lw) (polynomial lw f) y (polynomial lw d)) ((v hb).1 lw) h)
  shared_leads (Err r) c = λ ha hb. let told = c (u ha).0 (v hb).0 in (told.0, told.2)
