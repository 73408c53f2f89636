-- The content of 16 rows of `width` codes, and division of each row by one polynomial in y.
use Rattle.std.specs.Prelude.{◌≡◌, ℕ, ◌⊎◌, List, Ok, Err, Result, ◌≢◌}
use Rattle.coefficients.specs.Arithmetic.{Arithmetic, Laws, IsField}
use Rattle.coefficients.specs.declared.kind.ReciprocalFault.{ReciprocalFault}
use Rattle.coefficients.specs.declared.kind.ReciprocalFault.TheVariants.{NoReciprocal}
use Rattle.algebra.specs.Divisors.{Divides, Invertible}
use Rattle.algebra.specs.Lead.{lead, Normal}
use Rattle.algebra.specs.Polynomial.{Poly, poly_discrete}
use Rattle.algebra.specs.Change.{Poly₂, poly₂, number}
use Rattle.bivariate.specs.TwoUnknowns.{Content}
use Rattle.tables.specs.declared.faults.DivisionFault.{DivisionFault}
use Rattle.tables.specs.declared.faults.DivisionFault.TheVariants.{Reciprocal, Uneven}
use Rattle.polynomials.specs.Elements.{element_discrete, elements, field, polynomial, polynomials, polynomial_xy}
use Rattle.polynomials.specs.Rows.{Inside, Sized}
use Rattle.polynomials.specs.Steps.{NoInverse, Undivided, Stuck}

module _ {K : Arithmetic} (laws : Laws K) where
  open poly₂ (elements laws) (element_discrete K) use {zero as 𝟎, mul as ◌⊠◌}

  infixl 70 ◌⊠◌
  -- the polynomial in y that a row means, as one in x and y
  abbrev pub lifted : List ℕ → Poly₂ (elements laws) (element_discrete K)
  lifted l = number (polynomials laws) (poly_discrete (elements laws) (element_discrete K)) (polynomial laws l)

  -- d divides every coefficient of x^i, whatever divides them all divides d, and the leading coefficient of d is one, unless d is zero
  pub record RowsGcd (w : ℕ) (t d : List ℕ) : Type 0 where
    pub divides : (i : ℕ) → Divides (polynomials laws) (polynomial laws d) ((polynomial_xy laws w t).0 i)
    pub greatest : (x : Poly (elements laws)) → ((i : ℕ) → Divides (polynomials laws) x ((polynomial_xy laws w t).0 i)) → Divides (polynomials laws) x (polynomial laws d)
    pub normal : Normal (elements laws) (polynomial laws d)

  -- t is g times q, and g is not zero
  pub record Multiple (w : ℕ) (t g q : List ℕ) : Type 0 where
    pub nonzero : polynomial laws g ≡ (polynomials laws).zero → ⊥
    pub is : polynomial_xy laws w t ≡ lifted g ⊠ polynomial_xy laws w q

  -- a division by g has one remainder: the kind is a field, or the leading coefficient of g has a reciprocal
  abbrev pub Exact : List ℕ → Type 0
  Exact g = IsField K ⊎ Invertible (elements laws) (lead (elements laws) (polynomial laws g))

  -- g, which is not zero, does not divide some coefficient of x^i
  pub record NoMultiple (w : ℕ) (t g : List ℕ) : Type 0 where
    pub nonzero : polynomial laws g ≡ (polynomials laws).zero → ⊥
    pub uneven : Exact g → (i : ℕ) × (Divides (polynomials laws) (polynomial laws g) ((polynomial_xy laws w t).0 i) → ⊥)

  -- over a field, c is the content of A, and P its primitive part
  abbrev pub ContentOver : IsField K → Poly₂ (elements laws) (element_discrete K) → Poly (elements laws) → Poly₂ (elements laws) (element_discrete K) → Type 0
  unfolding field
  ContentOver only A c P = Content (field laws only) A c P

  -- d is the content of t, which is not zero, and p is left of t without it
  pub record Parted (w : ℕ) (t d p : List ℕ) : Type 0 where
    pub nonzero : polynomial_xy laws w t ≡ 𝟎 → ⊥
    pub gcd : RowsGcd w t d
    pub is : polynomial_xy laws w t ≡ lifted d ⊠ polynomial_xy laws w p
    pub content : (only : IsField K) → ContentOver only (polynomial_xy laws w t) (polynomial laws d) (polynomial_xy laws w p)

-- `content`: d is left, and the answer is its size. Only a kind that is no field wants a reciprocal
abbrev pub Gathering : Arithmetic → (w : ℕ) (t d : List ℕ) → Result ℕ ReciprocalFault → Type 0
Gathering K w t d (Ok n) = Inside K t → Inside K d × Sized K d n × ((laws : Laws K) → RowsGcd laws w t d)
Gathering K w t d (Err e) = Inside K t → Inside K d × ((c : ℕ) × (e ≡ NoReciprocal c) × Stuck K c)

-- a row f by g, with q over the row `held`
abbrev pub Even : Arithmetic → (f g held q : List ℕ) → Result (Unit {0}) DivisionFault → Type 0
Even K f g held q (Ok u) = Inside K f → Inside K g → Inside K q × ((laws : Laws K) → (polynomial laws g ≢ (polynomials laws).zero) × (polynomial laws f ≡ (polynomials laws).mul (polynomial laws g) (polynomial laws q)))
Even K f g held q (Err (Reciprocal e)) = Undivided K g e × (q ≡ held)
Even K f g held q (Err Uneven) = Inside K f → Inside K g → Inside K q × ((laws : Laws K) → (polynomial laws g ≢ (polynomials laws).zero) × (Exact laws g → Divides (polynomials laws) (polynomial laws g) (polynomial laws f) → ⊥))

-- `divide_rows`: t by g, with the quotient q. The fault names the leading coefficient of g, which has no reciprocal, or some row is no multiple of g
abbrev pub EvenRows : Arithmetic → (w : ℕ) (t g q : List ℕ) → Result (Unit {0}) DivisionFault → Type 0
EvenRows K w t g q (Ok u) = Inside K t → Inside K g → Inside K q × ((laws : Laws K) → Multiple laws w t g q)
EvenRows K w t g q (Err (Reciprocal e)) = Inside K t → Inside K g → Inside K q × ((c : ℕ) × (e ≡ NoReciprocal c) × NoInverse K g c)
EvenRows K w t g q (Err Uneven) = Inside K t → Inside K g → Inside K q × ((laws : Laws K) → NoMultiple laws w t g)

-- the content wants the reciprocal of c, in a kind that is no field, and p is untouched; or t is zero, and so is its content
abbrev pub Unparted : Arithmetic → (w : ℕ) (t held p : List ℕ) (c : ℕ) → Type 0
Unparted K w t held p c = (Stuck K c × (p ≡ held)) ⊎ ((c ≡ K.zero) × Inside K p × ((laws : Laws K) → polynomial_xy laws w t ≡ (poly₂ (elements laws) (element_discrete K)).zero))

-- `take_content`: d is left, with p over the rows `held`, and the answer is the size of d
abbrev pub Parting : Arithmetic → (w : ℕ) (t held d p : List ℕ) → Result ℕ DivisionFault → Type 0
Parting K w t held d p (Ok n) = Inside K t → Inside K d × Inside K p × Sized K d n × ((laws : Laws K) → Parted laws w t d p)
Parting K w t held d p (Err (Reciprocal e)) = Inside K t → Inside K d × ((c : ℕ) × (e ≡ NoReciprocal c) × Unparted K w t held p c)
Parting K w t held d p (Err Uneven) = Inside K t → ⊥
