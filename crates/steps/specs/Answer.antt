-- The greatest common divisor of two prepared tables and its cofactors, by the theory.
use Rattle.std.specs.Prelude.{◌≡◌, ℕ, ◌<◌, List, length, take, Ok, Err, Result}
use Rattle.coefficients.specs.Arithmetic.{Arithmetic, Laws, IsField}
use Rattle.algebra.specs.Change.{poly₂}
use Rattle.bivariate.specs.Degrees.{deg_x, Within}
use Rattle.bivariate.specs.TwoUnknowns.{Reduced}
use Rattle.brown.specs.Prepared.{Prepared}
use Rattle.brown.specs.Theorems.{Answer}
use Rattle.polynomials.specs.Elements.{element_discrete, elements, polynomial_xy, table}
use Rattle.polynomials.specs.Rows.{Inside, cut_row}
use Rattle.tables.specs.declared.faults.DivisionFault.{DivisionFault}
use Rattle.tables.specs.Content.{lifted}
use Rattle.values.specs.Meaning.{scalars}
use Rattle.steps.specs.declared.prepare.Workings.{Workings}
use Rattle.steps.specs.declared.factored.Factored.{Factored}
use Rattle.steps.specs.Faults.{Faulty}
use Rattle.steps.specs.Prepare.{WorkingsOf}
use Rattle.steps.specs.Factored.{ElementsIn}

-- `narrow`: the first half of each row
pub record Narrowed (t r : List ℕ) : Type 0 where
  pub long : length r ≡ 256
  pub rows : (i : ℕ) → i < 16 → cut_row 16 r i ≡ take 16 (cut_row 32 t i)

-- `enlarge`: the table t times the polynomial c in y; over a field it is refused only where some power of y is above the 15th
abbrev pub Enlarging : Arithmetic → (t c : List ℕ) → Result (List ℕ) DivisionFault → Type 0
Enlarging K t c (Ok r) = (length r ≡ 256) × (Inside K t → Inside K c → Inside K r × ((laws : Laws K) → table laws r ≡ (poly₂ (elements laws) (element_discrete K)).mul (lifted laws c) (table laws t)))
Enlarging K t c (Err e) = Inside K t → Inside K c → ((laws : Laws K) (only : IsField K) → Within (scalars laws only) 16 ((poly₂ (elements laws) (element_discrete K)).mul (lifted laws c) (table laws t))) → Faulty K e

-- The greatest common divisor of two tables with its cofactors: elements, and over a field what they are named for.
pub record ReductionOf (K : Arithmetic) (a b : List ℕ) (r : Factored 256) : Type 0 where
  pub elements : ElementsIn K r
  pub reduced : (laws : Laws K) (only : IsField K) → Reduced (scalars laws only) (table laws a) (table laws b) (table laws r.divisor) (table laws r.left) (table laws r.right)

-- .. or a fault that only a kind that is no field gives
abbrev pub Ends : Arithmetic → (a b : List ℕ) → Result (Factored 256) DivisionFault → Type 0
Ends K a b (Ok r) = ReductionOf K a b r
Ends K a b (Err e) = Faulty K e

-- `finish`: f is the greatest common divisor of the parts and its cofactors
abbrev pub Finishing : Arithmetic → Workings → (f : Factored 256) → Result (Factored 256) DivisionFault → Type 0
Finishing K w f answer = (a b : List ℕ) → Inside K a → Inside K b → length a ≡ 256 → length b ≡ 256 → WorkingsOf K a b w → ElementsIn K f →
    ((laws : Laws K) (only : IsField K) (p : Prepared (scalars laws only) (table laws a) (table laws b)) → Reduced (scalars laws only) p.A' p.B' (table laws f.divisor) (table laws f.left) (table laws f.right)) →
    Ends K a b answer

-- `reduce_free`: over a field, where the greatest common divisor of the parts is free of x
abbrev pub Free : Arithmetic → Workings → Result (Factored 256) DivisionFault → Type 0
Free K w answer = (a b : List ℕ) → Inside K a → Inside K b → length a ≡ 256 → length b ≡ 256 → WorkingsOf K a b w →
    ((laws : Laws K) (only : IsField K) (p : Prepared (scalars laws only) (table laws a) (table laws b)) → deg_x (scalars laws only) p.G' ≡ 0) → Ends K a b answer

-- `reduce_joined`: over a field, what is joined at lucky points
abbrev pub Closing : Arithmetic → Workings → Factored 512 → Result (Factored 256) DivisionFault → Type 0
Closing K w j answer = (a b : List ℕ) → Inside K a → Inside K b → length a ≡ 256 → length b ≡ 256 → WorkingsOf K a b w → ElementsIn K j →
    ((laws : Laws K) (only : IsField K) (p : Prepared (scalars laws only) (table laws a) (table laws b)) → Answer (scalars laws only) p (polynomial_xy laws 32 j.divisor) (polynomial_xy laws 32 j.left) (polynomial_xy laws 32 j.right)) →
    Ends K a b answer
