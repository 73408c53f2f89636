-- What is joined from the images at points, and whether it passes the test, by the theory.
use Rattle.std.specs.Prelude.{◌≡◌, ℕ, ◌<◌, Bool, true, ◌↔◌, List, map, length, Ok, Err, Result, slice_index}
use Rattle.coefficients.specs.Arithmetic.{Arithmetic, Laws, IsField}
use Rattle.algebra.specs.Lists.{Distinct}
use Rattle.brown.specs.Prepared.{Prepared}
use Rattle.brown.specs.Joined.{Sample, Joined, Passes}
use Rattle.polynomials.specs.Elements.{read, polynomial_xy, table}
use Rattle.polynomials.specs.Rows.{Inside, cut_row}
use Rattle.tables.specs.declared.faults.DivisionFault.{DivisionFault}
use Rattle.values.specs.Meaning.{scalars}
use Rattle.steps.specs.declared.prepare.Workings.{Workings}
use Rattle.steps.specs.declared.factored.Factored.{Factored}
use Rattle.steps.specs.Faults.{Faulty}
use Rattle.steps.specs.Factored.{ElementsIn}
use Rattle.steps.specs.Prepare.{WorkingsOf}
use Rattle.steps.specs.Look.{ImagesOf}

-- Different elements, and the images of two tables at them, all of degree k, 16 codes for each.
pub record Gathered (K : Arithmetic) (a b : List ℕ) (k : ℕ) (points ds ls rs : List ℕ) : Type 0 where
  pub inside : Inside K points
  pub distinct : Distinct points
  pub images : (i : ℕ) → i < length points → ImagesOf K a b (slice_index points i) k (cut_row 16 ds i) (cut_row 16 ls i) (cut_row 16 rs i)

-- Over a field: as many points as the closing number, of one degree, and what is joined from the images at them.
pub record JoinedOf {K : Arithmetic} (laws : Laws K) (only : IsField K) (a b : List ℕ) (k : ℕ) (points : List ℕ) (j : Factored 512) (p : Prepared (scalars laws only) (table laws a) (table laws b)) : Type 0 where
  pub sample : Sample (scalars laws only) p k (map (read laws) points)
  pub joined : Joined (scalars laws only) p (map (read laws) points) (polynomial_xy laws 32 j.divisor) (polynomial_xy laws 32 j.left) (polynomial_xy laws 32 j.right)

-- `join_images`
abbrev pub Joins : Arithmetic → (points ds ls rs : List ℕ) → Result (Factored 512) DivisionFault → Type 0
Joins K points ds ls rs (Ok j) = (a b : List ℕ) (k : ℕ) (w : Workings) → WorkingsOf K a b w → Gathered K a b k points ds ls rs → length points ≡ w.closing →
    ElementsIn K j × ((laws : Laws K) (only : IsField K) (p : Prepared (scalars laws only) (table laws a) (table laws b)) → JoinedOf laws only a b k points j p)
Joins K points ds ls rs (Err e) = (a b : List ℕ) (k : ℕ) → Gathered K a b k points ds ls rs → Faulty K e

-- `passes`: over a field, whether the test is passed
abbrev pub Trying : Arithmetic → Workings → Factored 512 → Bool → Type 0
Trying K w j r = (a b : List ℕ) → WorkingsOf K a b w → ElementsIn K j → (laws : Laws K) (only : IsField K) (p : Prepared (scalars laws only) (table laws a) (table laws b)) →
    (r ≡ true) ↔ Passes (scalars laws only) p (polynomial_xy laws 32 j.divisor) (polynomial_xy laws 32 j.left) (polynomial_xy laws 32 j.right)
