-- Exact division of 16 rows of `width` codes by 16 others, by the polynomials in x and y that they mean.
use Rattle.std.specs.Prelude.{◌≡◌, ℕ, ◌+◌, ◌-◌, ◌<◌, ◌⊎◌, List, Ok, Err, Result, ◌≢◌}
use Rattle.coefficients.specs.Arithmetic.{Arithmetic, Laws, IsField}
use Rattle.coefficients.specs.declared.kind.ReciprocalFault.TheVariants.{NoReciprocal}
use Rattle.algebra.specs.Divisors.{Divides}
use Rattle.algebra.specs.Polynomial.{Poly, size}
use Rattle.algebra.specs.Change.{poly₂}
use Rattle.polynomials.specs.Elements.{element_discrete, elements, polynomial, polynomials, polynomial_xy}
use Rattle.polynomials.specs.Rows.{Inside}
use Rattle.polynomials.specs.Steps.{Stuck}
use Rattle.polynomials.specs.declared.product.NoRoom.{NoRoom as RowNoRoom}
use Rattle.tables.specs.declared.faults.DivisionFault.{DivisionFault}
use Rattle.tables.specs.declared.faults.DivisionFault.TheVariants.{Reciprocal, Uneven}
use Rattle.tables.specs.Degrees.{SizedX}

module _ {K : Arithmetic} (laws : Laws K) where
  open polynomials laws use {add as ◌⊕◌, neg as ⊖◌, mul as ◌⊙◌}
  open poly₂ (elements laws) (element_discrete K) use {zero as 𝟎, mul as ◌⊠◌}

  infixl 60 ◌⊕◌
  infixl 70 ◌⊙◌
  infix 80 ⊖◌
  infixl 70 ◌⊠◌
  -- t' is t less x^s times f times b
  pub record LessMultiple (w : ℕ) (t b : List ℕ) (s : ℕ) (f : Poly (elements laws)) (t' : List ℕ) : Type 0 where
    pub under : (k : ℕ) → k < s → (polynomial_xy laws w t').0 k ≡ (polynomial_xy laws w t).0 k
    pub over : (k : ℕ) → (polynomial_xy laws w t').0 (s + k) ≡ (polynomial_xy laws w t).0 (s + k) ⊕ ⊖ (f ⊙ (polynomial_xy laws w b).0 k)

  -- neither f nor some coefficient of b is zero, and their product has no place in w codes
  pub record NoRoom (w : ℕ) (b : List ℕ) (f : Poly (elements laws)) : Type 0 where
    pub at : ℕ
    pub factor : 0 < size (elements laws) f
    pub row : 0 < size (elements laws) ((polynomial_xy laws w b).0 at)
    pub over : w + 1 < size (elements laws) f + size (elements laws) ((polynomial_xy laws w b).0 at)

  -- f times the leading coefficient of b, whose size in x is n, is the coefficient of t at s + n - 1
  abbrev pub Factor : (w : ℕ) (t b : List ℕ) (s n : ℕ) → Poly (elements laws) → Type 0
  Factor w t b s n f = (polynomial_xy laws w t).0 (s + n - 1) ≡ (polynomial_xy laws w b).0 (n - 1) ⊙ f

  -- one step of the division: t and `held` become t' and q
  pub record Cut (w : ℕ) (t b : List ℕ) (s n : ℕ) (held t' q : List ℕ) : Type 0 where
    pub factor : Poly (elements laws)
    pub is : Factor w t b s n factor
    pub less : LessMultiple w t b s factor t'
    pub here : (polynomial_xy laws w q).0 s ≡ factor
    pub others : (k : ℕ) → (k ≢ s) → (polynomial_xy laws w q).0 k ≡ (polynomial_xy laws w held).0 k

  -- no step: over a field there is no factor, or there is one, and its product with b does not fit
  abbrev pub NoCut : (w : ℕ) (t b : List ℕ) (s n : ℕ) → Type 0
  NoCut w t b s n = (IsField K → Divides (polynomials laws) ((polynomial_xy laws w b).0 (n - 1)) ((polynomial_xy laws w t).0 (s + n - 1)) → ⊥) ⊎ ((f : Poly (elements laws)) × Factor w t b s n f × NoRoom w b f)

  -- t is b times q, and b is not zero
  pub record MultipleOf (w : ℕ) (t b q : List ℕ) : Type 0 where
    pub nonzero : polynomial_xy laws w b ≡ 𝟎 → ⊥
    pub is : polynomial_xy laws w t ≡ polynomial_xy laws w b ⊠ polynomial_xy laws w q

  -- b is not zero, and over a field it does not divide t
  pub record NoMultipleOf (w : ℕ) (t b : List ℕ) : Type 0 where
    pub nonzero : polynomial_xy laws w b ≡ 𝟎 → ⊥
    pub uneven : IsField K → Divides (poly₂ (elements laws) (element_discrete K)) (polynomial_xy laws w b) (polynomial_xy laws w t) → ⊥

-- `take_multiple`: t becomes t', or stands where the product has no place
abbrev pub Taking : Arithmetic → (w : ℕ) (t b : List ℕ) (s : ℕ) (f t' : List ℕ) → Result (Unit {0}) RowNoRoom → Type 0
Taking K w t b s f t' (Ok u) = Inside K t → Inside K b → Inside K f → Inside K t' × ((laws : Laws K) → LessMultiple laws w t b s (polynomial laws f) t')
Taking K w t b s f t' (Err e) = (t' ≡ t) × (Inside K b → Inside K f → (laws : Laws K) → NoRoom laws w b (polynomial laws f))

-- `cut_top`: one step. The fault names a leading coefficient that has no reciprocal, in a kind that is no field
abbrev pub CutTop : Arithmetic → (w : ℕ) (t b : List ℕ) (s n : ℕ) (held t' q : List ℕ) → Result (Unit {0}) DivisionFault → Type 0
CutTop K w t b s n held t' q (Ok u) = Inside K t → Inside K b → Inside K held → Inside K t' × Inside K q × ((laws : Laws K) → Cut laws w t b s n held t' q)
CutTop K w t b s n held t' q (Err (Reciprocal e)) = Inside K t → Inside K b → Inside K held → Inside K t' × Inside K q × ((c : ℕ) × (e ≡ NoReciprocal c) × Stuck K c)
CutTop K w t b s n held t' q (Err Uneven) = Inside K t → Inside K b → Inside K held → Inside K t' × Inside K q × ((laws : Laws K) → NoCut laws w t b s n)

-- b is zero, and so is c, or c has no reciprocal, in a kind that is no field
abbrev pub NoLead : (K : Arithmetic) (w : ℕ) (b : List ℕ) (c : ℕ) → Type 0
NoLead K w b c = ((c ≡ K.zero) × ((laws : Laws K) → polynomial_xy laws w b ≡ (poly₂ (elements laws) (element_discrete K)).zero)) ⊎ Stuck K c

-- `divide_table`: t by b, with the quotient q, and t' left of t: zero where the division comes out even
abbrev pub DividedTable : Arithmetic → (w : ℕ) (t b t' q : List ℕ) → Result (Unit {0}) DivisionFault → Type 0
DividedTable K w t b t' q (Ok u) = Inside K t → Inside K b → Inside K t' × Inside K q × SizedX K w t' 0 × ((laws : Laws K) → MultipleOf laws w t b q)
DividedTable K w t b t' q (Err (Reciprocal e)) = Inside K t → Inside K b → Inside K t' × Inside K q × ((c : ℕ) × (e ≡ NoReciprocal c) × NoLead K w b c)
DividedTable K w t b t' q (Err Uneven) = Inside K t → Inside K b → Inside K t' × Inside K q × ((laws : Laws K) → NoMultipleOf laws w t b)
