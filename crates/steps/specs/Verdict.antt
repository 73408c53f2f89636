-- What comes of as many points as the closing number, by the theory.
use Rattle.std.specs.Prelude.{◌≡◌, ℕ, List, map, length, Some, None, Ok, Err, Option, Result}
use Rattle.coefficients.specs.Arithmetic.{Arithmetic, Laws, IsField}
use Rattle.bivariate.specs.Degrees.{K[y][x]}
use Rattle.brown.specs.Prepared.{Prepared}
use Rattle.brown.specs.Joined.{Sample, Joined, Passes}
use Rattle.polynomials.specs.Elements.{read, table}
use Rattle.polynomials.specs.Rows.{Inside}
use Rattle.values.specs.Meaning.{scalars}
use Rattle.steps.specs.declared.prepare.Workings.{Workings}
use Rattle.tables.specs.declared.faults.DivisionFault.{DivisionFault}
use Rattle.steps.specs.declared.factored.Factored.{Factored}
use Rattle.steps.specs.Faults.{Faulty}
use Rattle.steps.specs.Prepare.{WorkingsOf}
use Rattle.steps.specs.Trial.{Gathered}
use Rattle.steps.specs.Answer.{ReductionOf}

-- What is joined from the images at a sample of points has a property.
pub record Tested {K : Arithmetic} (laws : Laws K) (only : IsField K) {A B : K[y][x] (scalars laws only)} (p : Prepared (scalars laws only) A B) (k : ℕ) (points : List ℕ) (Has : (G* A* B* : K[y][x] (scalars laws only)) → Type 0) : Type 0 where
  pub sample : Sample (scalars laws only) p k (map (read laws) points)
  pub G* : K[y][x] (scalars laws only)
  pub A* : K[y][x] (scalars laws only)
  pub B* : K[y][x] (scalars laws only)
  pub joined : Joined (scalars laws only) p (map (read laws) points) G* A* B*
  pub has : Has G* A* B*

-- What is known where two tables are prepared, and the points with their images are as many as the closing number.
pub record Enough (K : Arithmetic) (a b : List ℕ) (w : Workings) (k : ℕ) (points ds ls rs : List ℕ) : Type 0 where
  pub A_long : length a ≡ 256
  pub B_long : length b ≡ 256
  pub A_inside : Inside K a
  pub B_inside : Inside K b
  pub workings : WorkingsOf K a b w
  pub gathered : Gathered K a b k points ds ls rs
  pub number : length points ≡ w.closing

-- `decide`: over a field the test is passed, and the answer is read off, or it is failed
abbrev pub Deciding : Arithmetic → Workings → (points ds ls rs : List ℕ) → Result (Option (Factored 256)) DivisionFault → Type 0
Deciding K w points ds ls rs (Ok (Some r)) = (a b : List ℕ) (k : ℕ) → Enough K a b w k points ds ls rs →
    ReductionOf K a b r × ((laws : Laws K) (only : IsField K) (p : Prepared (scalars laws only) (table laws a) (table laws b)) → Tested laws only p k points (Passes (scalars laws only) p))
Deciding K w points ds ls rs (Ok None) = (a b : List ℕ) (k : ℕ) → Enough K a b w k points ds ls rs →
    (laws : Laws K) (only : IsField K) (p : Prepared (scalars laws only) (table laws a) (table laws b)) → Tested laws only p k points (λ G* A* B*. ¬ Passes (scalars laws only) p G* A* B*)
Deciding K w points ds ls rs (Err e) = (a b : List ℕ) (k : ℕ) → Enough K a b w k points ds ls rs → Faulty K e
