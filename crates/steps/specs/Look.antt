-- What is found at a point, by the images of the theory.
use Rattle.std.specs.Prelude.{◌≡◌, ℕ, true, List, Some, None, Ok, Err, Option, Result}
use Rattle.coefficients.specs.Arithmetic.{Arithmetic, Laws, IsField}
use Rattle.algebra.specs.Polynomial.{Poly, at}
use Rattle.algebra.specs.Change.{number}
use Rattle.bivariate.specs.Degrees.{K[y][x], deg}
use Rattle.brown.specs.Prepared.{at_y, Prepared}
use Rattle.brown.specs.Joined.{Image}
use Rattle.polynomials.specs.Elements.{Element, element_discrete, elements, read, polynomial, polynomials, table}
use Rattle.polynomials.specs.Relations.{Value}
use Rattle.polynomials.specs.Rows.{Inside}
use Rattle.tables.specs.declared.faults.DivisionFault.{DivisionFault}
use Rattle.values.specs.Meaning.{scalars}
use Rattle.steps.specs.declared.prepare.Workings.{Workings}
use Rattle.steps.specs.declared.look.ImageRows.{ImageRows}
use Rattle.steps.specs.Faults.{Faulty}
use Rattle.steps.specs.Prepare.{WorkingsOf}

module _ {K : Arithmetic} (laws : Laws K) (only : IsField K) {A B : K[y][x] (scalars laws only)} (p : Prepared (scalars laws only) A B) where
  open polynomials laws use {mul as ◌⊙◌}

  infixl 70 ◌⊙◌
  -- the value of γ at a point
  abbrev pub lead_at : ℕ → Element K
  lead_at α = at (elements laws) (element_discrete K) (read laws α) p.γ

  -- γ is not zero at α, and d, l and r are γ(α) g, A'(x, α) / g and B'(x, α) / g, where g is the monic greatest common divisor of the images, of degree k
  pub record ImageAt (α k : ℕ) (d l r : List ℕ) : Type 0 where
    pub stands : ¬ (lead_at α ≡ (elements laws).zero)
    pub g : Poly (elements laws)
    pub image : Image (scalars laws only) p (read laws α) g
    pub degree : deg (scalars laws only) g ≡ k
    pub divisor : polynomial laws d ≡ number (elements laws) (element_discrete K) (lead_at α) ⊙ g
    pub left : at_y (scalars laws only) (read laws α) p.A' ≡ g ⊙ polynomial laws l
    pub right : at_y (scalars laws only) (read laws α) p.B' ≡ g ⊙ polynomial laws r

-- The rows d, l and r hold elements, and over a field they are the images of two tables at α.
pub record ImagesOf (K : Arithmetic) (a b : List ℕ) (α k : ℕ) (d l r : List ℕ) : Type 0 where
  pub divisor_in : Inside K d
  pub left_in : Inside K l
  pub right_in : Inside K r
  pub are : (laws : Laws K) (only : IsField K) (p : Prepared (scalars laws only) (table laws a) (table laws b)) → ImageAt laws only p α k d l r

-- `images`: γ has the value v at α, which is not zero
abbrev pub Imaging : Arithmetic → Workings → (α v : ℕ) → Result ImageRows DivisionFault → Type 0
Imaging K w α v (Ok i) = (a b : List ℕ) → WorkingsOf K a b w → K.element α ≡ true → K.element v ≡ true → ((laws : Laws K) → Value laws w.lead α v) → ¬ (v ≡ K.zero) → ImagesOf K a b α i.degree i.rows.divisor i.rows.left i.rows.right
Imaging K w α v (Err e) = (a b : List ℕ) → WorkingsOf K a b w → K.element α ≡ true → Faulty K e

-- `look`: what is found at an element, and nothing where γ is zero
abbrev pub Looking : Arithmetic → Workings → (α : ℕ) → Result (Option ImageRows) DivisionFault → Type 0
Looking K w α (Ok (Some i)) = (a b : List ℕ) → WorkingsOf K a b w → K.element α ≡ true → ImagesOf K a b α i.degree i.rows.divisor i.rows.left i.rows.right
Looking K w α (Ok None) = (a b : List ℕ) → WorkingsOf K a b w → K.element α ≡ true → (laws : Laws K) (only : IsField K) (p : Prepared (scalars laws only) (table laws a) (table laws b)) → lead_at laws only p α ≡ (elements laws).zero
Looking K w α (Err e) = (a b : List ℕ) → WorkingsOf K a b w → K.element α ≡ true → Faulty K e
