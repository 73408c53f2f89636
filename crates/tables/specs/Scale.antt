-- 16 rows of `width` codes times a polynomial in y, and times a constant.
use Rattle.std.specs.Prelude.{◌≡◌, ℕ, ◌+◌, ◌<◌, List, Ok, Err, Result}
use Rattle.coefficients.specs.Arithmetic.{Arithmetic, Laws, IsField}
use Rattle.coefficients.specs.declared.kind.ReciprocalFault.{ReciprocalFault}
use Rattle.coefficients.specs.declared.kind.ReciprocalFault.TheVariants.{NoReciprocal}
use Rattle.algebra.specs.Divisors.{Invertible}
use Rattle.algebra.specs.Lead.{LeadIs, Monic}
use Rattle.algebra.specs.Polynomial.{poly_discrete, size}
use Rattle.algebra.specs.Change.{Poly₂, poly₂, number}
use Rattle.polynomials.specs.Elements.{Element, element_discrete, elements, polynomial, polynomials, polynomial_xy}
use Rattle.polynomials.specs.Rows.{Inside}
use Rattle.polynomials.specs.Steps.{Stuck}
use Rattle.polynomials.specs.declared.product.NoRoom.{NoRoom}
use Rattle.tables.specs.Degrees.{SizedX, width_over}
use Rattle.tables.specs.Content.{lifted}

module _ {K : Arithmetic} (laws : Laws K) where
  open poly₂ (elements laws) (element_discrete K) use {mul as ◌⊠◌}

  infixl 70 ◌⊠◌
  -- p is g times t
  abbrev pub Times : (w : ℕ) (t g p : List ℕ) → Type 0
  Times w t g p = polynomial_xy laws w p ≡ lifted laws g ⊠ polynomial_xy laws w t

  -- g times some coefficient of x^i has no place in w codes, since neither is zero and their sizes are too large; over a field the product has a size in y above w
  pub record NoPlace (w : ℕ) (t g : List ℕ) : Type 0 where
    pub at : ℕ
    pub by : 0 < size (elements laws) (polynomial laws g)
    pub row : 0 < size (elements laws) ((polynomial_xy laws w t).0 at)
    pub over : w + 1 < size (elements laws) (polynomial laws g) + size (elements laws) ((polynomial_xy laws w t).0 at)
    pub large : (only : IsField K) → w < width_over laws only (lifted laws g ⊠ polynomial_xy laws w t)

  -- a constant, as a polynomial in x and y
  abbrev pub constant : Element K → Poly₂ (elements laws) (element_discrete K)
  constant c = number (polynomials laws) (poly_discrete (elements laws) (element_discrete K)) (number (elements laws) (element_discrete K) c)

  -- m is t times a constant that has a reciprocal, and the leading coefficient in x of m is monic in y, unless m is zero
  pub record MonicOf (w : ℕ) (t m : List ℕ) : Type 0 where
    pub by : Element K
    pub unit : Invertible (elements laws) by
    pub is : polynomial_xy laws w m ≡ constant by ⊠ polynomial_xy laws w t
    pub monic : ¬ (size (polynomials laws) (polynomial_xy laws w m) ≡ 0) → LeadIs (polynomials laws) (Monic (elements laws)) (polynomial_xy laws w m)

-- `multiply_rows`: t times g, left in p, or some row for which there is no room
abbrev pub ManyTimes : Arithmetic → (w : ℕ) (t g p : List ℕ) → Result (Unit {0}) NoRoom → Type 0
ManyTimes K w t g p (Ok u) = Inside K t → Inside K g → Inside K p × ((laws : Laws K) → Times laws w t g p)
ManyTimes K w t g p (Err e) = Inside K t → Inside K g → Inside K p × ((laws : Laws K) → NoPlace laws w t g)

-- `make_monic_rows`: t becomes m, and the answer is the size in x of both. Only a kind that is no field wants a reciprocal, and then t stands
abbrev pub MonicRows : Arithmetic → (w : ℕ) (t m : List ℕ) → Result ℕ ReciprocalFault → Type 0
MonicRows K w t m (Ok n) = SizedX K w t n × (Inside K t → Inside K m × SizedX K w m n × ((laws : Laws K) → MonicOf laws w t m))
MonicRows K w t m (Err e) = (m ≡ t) × (Inside K t → (c : ℕ) × (e ≡ NoReciprocal c) × Stuck K c)
