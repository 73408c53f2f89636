-- The leading coefficients in x of 16 rows of `width` codes, and their greatest common divisor.
use Rattle.std.specs.Prelude.{◌≡◌, ℕ, List, Ok, Err, Result}
use Rattle.coefficients.specs.Arithmetic.{Arithmetic, Laws}
use Rattle.coefficients.specs.declared.kind.ReciprocalFault.{ReciprocalFault}
use Rattle.coefficients.specs.declared.kind.ReciprocalFault.TheVariants.{NoReciprocal}
use Rattle.algebra.specs.Divisors.{Greatest}
use Rattle.algebra.specs.Lead.{lead, Normal}
use Rattle.polynomials.specs.Elements.{elements, polynomial, polynomials, polynomial_xy}
use Rattle.polynomials.specs.Rows.{Inside, Sized}
use Rattle.polynomials.specs.Steps.{Stuck}

module _ {K : Arithmetic} (laws : Laws K) where
  -- l is the leading coefficient in x of t, and zero where t is
  abbrev pub LeadOf : (w : ℕ) (t l : List ℕ) → Type 0
  LeadOf w t l = polynomial laws l ≡ lead (polynomials laws) (polynomial_xy laws w t)

  -- d is the greatest common divisor of the leading coefficients in x of a and b whose leading coefficient is one, or zero where both are
  pub record LeadGcd (w : ℕ) (a b d : List ℕ) : Type 0 where
    pub greatest : Greatest (polynomials laws) (lead (polynomials laws) (polynomial_xy laws w a)) (lead (polynomials laws) (polynomial_xy laws w b)) (polynomial laws d)
    pub normal : Normal (elements laws) (polynomial laws d)

-- `lead_row`: l is the leading coefficient of t
abbrev pub LeadRow : Arithmetic → (w : ℕ) (t l : List ℕ) → Type 0
LeadRow K w t l = Inside K t → Inside K l × ((laws : Laws K) → LeadOf laws w t l)

-- `lead_gcd`: d is left, and the answer is its size. Only a kind that is no field wants a reciprocal
abbrev pub SharedLeads : Arithmetic → (w : ℕ) (a b d : List ℕ) → Result ℕ ReciprocalFault → Type 0
SharedLeads K w a b d (Ok n) = Inside K a → Inside K b → Inside K d × Sized K d n × ((laws : Laws K) → LeadGcd laws w a b d)
SharedLeads K w a b d (Err e) = Inside K a → Inside K b → Inside K d × ((c : ℕ) × (e ≡ NoReciprocal c) × Stuck K c)
