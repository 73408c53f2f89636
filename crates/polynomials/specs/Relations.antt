-- What rows of codes have to do with one another, by the polynomials that they mean.
use Rattle.std.specs.Prelude.{◌≡◌, ℕ, ◌<◌, List}
use Rattle.coefficients.specs.Arithmetic.{Arithmetic, Laws}
use Rattle.algebra.specs.Divisors.{Greatest, Associates}
use Rattle.algebra.specs.Lead.{Normal}
use Rattle.algebra.specs.Polynomial.{Poly, size, at}
use Rattle.algebra.specs.Change.{image}
use Rattle.polynomials.specs.Elements.{element_discrete, elements, read, polynomial, polynomials, table}

module _ {K : Arithmetic} (laws : Laws K) where
  open polynomials laws use {add as ◌⊕◌, mul as ◌⊙◌}

  infixl 60 ◌⊕◌
  infixl 70 ◌⊙◌
  -- v is the value at x of the polynomial l
  abbrev pub Value : List ℕ → (x v : ℕ) → Type 0
  Value l x v = (at (elements laws) (element_discrete K) (read laws x) (polynomial laws l)).0 ≡ v

  -- l is the polynomial in x that the table t becomes where y is α
  abbrev pub Image : List ℕ → (α : ℕ) → List ℕ → Type 0
  Image t α l = (image (elements laws) (element_discrete K) (read laws α)).map (table laws t) ≡ polynomial laws l

  -- f is q times g, and r, whose degree is smaller than that of g
  pub record Quotient (f g q r : List ℕ) : Type 0 where
    pub is : polynomial laws f ≡ polynomial laws q ⊙ polynomial laws g ⊕ polynomial laws r
    pub less : size (elements laws) (polynomial laws r) < size (elements laws) (polynomial laws g)

  -- .. with some q
  pub record Remainder (f g r : List ℕ) : Type 0 where
    pub quo : Poly (elements laws)
    pub is : polynomial laws f ≡ quo ⊙ polynomial laws g ⊕ polynomial laws r
    pub less : size (elements laws) (polynomial laws r) < size (elements laws) (polynomial laws g)

  -- a and b divide one another, and the leading coefficient of b is one, unless b is zero
  pub record NormalOf (a b : List ℕ) : Type 0 where
    pub associates : Associates (polynomials laws) (polynomial laws a) (polynomial laws b)
    pub normal : Normal (elements laws) (polynomial laws b)

  -- d is the greatest common divisor of a and b whose leading coefficient is one, or zero where both are
  pub record MonicGcd (a b d : List ℕ) : Type 0 where
    pub greatest : Greatest (polynomials laws) (polynomial laws a) (polynomial laws b) (polynomial laws d)
    pub normal : Normal (elements laws) (polynomial laws d)
