-- What the computed lists have to do with one another, by the polynomials that they mean.
use Rattle.std.specs.Prelude.{◌≡◌, ℕ, ◌≤◌, List, [], ◌∷◌, length}
use Rattle.coefficients.specs.Arithmetic.{Arithmetic, Laws, IsField}
use Rattle.algebra.specs.Divisors.{Greatest}
use Rattle.algebra.specs.Lead.{Monic}
use Rattle.algebra.specs.Polynomial.{Poly, poly_discrete, size}
use Rattle.algebra.specs.Change.{Poly₂, poly₂, number, image}
use Rattle.bivariate.specs.Degrees.{Within, lead_x}
use Rattle.bivariate.specs.TwoUnknowns.{Content}
use Rattle.polynomials.specs.Elements.{element_discrete, elements, read, polynomial, polynomials}
use Rattle.polynomials.specs.Relations.{Value}
use Rattle.values.specs.Meaning.{polynomial₂, scalars}

-- v has the properties In and P, and is the only one that has both
pub record Unique {A : Type 0} (In P : A → Type 0) (v : A) : Type 0 where
  pub inside : In v
  pub has : P v
  pub only : (w : A) → In w → P w → w ≡ v

-- the lists are equally long, and P holds of what stands at one place
abbrev pub Pairwise : {A B : Type 0} → (A → B → Type 0) → List A → List B → Type 0
Pairwise P [] [] = Unit {0}
Pairwise P [] (b ∷ k) = ⊥
Pairwise P (a ∷ l) [] = ⊥
Pairwise P (a ∷ l) (b ∷ k) = P a b × Pairwise P l k

module _ {K : Arithmetic} (laws : Laws K) where
  open polynomials laws use {mul as ◌⊙◌}
  open poly₂ (elements laws) (element_discrete K) use {mul as ◌⊠◌}

  infixl 70 ◌⊙◌
  infixl 70 ◌⊠◌
  -- xs is ys times q
  abbrev pub Exact : (xs ys q : List ℕ) → Type 0
  Exact xs ys q = polynomial laws xs ≡ polynomial laws ys ⊙ polynomial laws q

  -- l is the polynomial in x that the rows become where y is α
  abbrev pub RowImage : (rows : List (List ℕ)) (α : ℕ) (l : List ℕ) → Type 0
  RowImage rows α l = (image (elements laws) (element_discrete K) (read laws α)).map (polynomial₂ laws rows) ≡ polynomial laws l

  -- the rows a are c, a polynomial in y, times the rows b
  abbrev pub Multiple : (a : List (List ℕ)) (c : List ℕ) (b : List (List ℕ)) → Type 0
  Multiple a c b = polynomial₂ laws a ≡ number (polynomials laws) (poly_discrete (elements laws) (element_discrete K)) (polynomial laws c) ⊠ polynomial₂ laws b

  -- the rows a are the rows b times q
  abbrev pub Factors : (a b q : List (List ℕ)) → Type 0
  Factors a b q = polynomial₂ laws a ≡ polynomial₂ laws b ⊠ polynomial₂ laws q

  -- at the points ps the polynomial has the values vs, and its degree is smaller than their number
  pub record ThroughValues (ps vs curve : List ℕ) : Type 0 where
    pub small : size (elements laws) (polynomial laws curve) ≤ length ps
    pub meets : Pairwise (Value laws curve) ps vs

  module _ (only : IsField K) where
    -- at the points ps the rows have the images vs, and their degree in y is smaller than the number of points
    pub record ThroughImages (ps : List ℕ) (vs rows : List (List ℕ)) : Type 0 where
      pub small : Within (scalars laws only) (length ps) (polynomial₂ laws rows)
      pub meets : Pairwise (RowImage rows) ps vs

    -- c is the content of the rows, and part their primitive part
    abbrev pub ContentOf : (rows : List (List ℕ)) (c : List ℕ) (part : List (List ℕ)) → Type 0
    ContentOf rows c part = Content (scalars laws only) (polynomial₂ laws rows) (polynomial laws c) (polynomial₂ laws part)

    -- g is the monic greatest common divisor of the leading coefficients in x of the primitive parts of a and b
    pub record GcdOfLeads (a b : List (List ℕ)) (g : List ℕ) : Type 0 where
      pub monic : Monic (elements laws) (polynomial laws g)
      pub greatest : {c d : Poly (elements laws)} {A B : Poly₂ (elements laws) (element_discrete K)} → Content (scalars laws only) (polynomial₂ laws a) c A → Content (scalars laws only) (polynomial₂ laws b) d B → Greatest (polynomials laws) (lead_x (scalars laws only) A) (lead_x (scalars laws only) B) (polynomial laws g)
