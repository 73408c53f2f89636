-- What ties a job to two tables over a kind.
use Rattle.std.specs.Prelude.{◌≡◌, ℕ, ◌<◌, true, ◌⊎◌, List, take, None, ◌≢◌, slice_index}
use Rattle.coefficients.specs.Arithmetic.{Arithmetic, IsField}
use Rattle.coefficients.specs.declared.kind.ReciprocalFault.TheVariants.{Foreign, NoReciprocal}
use Rattle.algebra.specs.Lists.{Distinct}
use Rattle.polynomials.specs.Rows.{cut_row}
use Rattle.rules.specs.Numbers.{number}
use Rattle.tables.specs.declared.faults.DivisionFault.{DivisionFault}
use Rattle.tables.specs.declared.faults.DivisionFault.TheVariants.{Reciprocal, Uneven}
use Rattle.steps.specs.declared.factored.Factored.{Factored}
use Rattle.steps.specs.Prepare.{WorkingsOf}
use Rattle.steps.specs.Look.{ImagesOf}
use Rattle.steps.specs.Answer.{ReductionOf}
use Rattle.rulebook.specs.Opening.{opening}
use Rattle.reducer.specs.declared.standing.Standing.{Standing}
use Rattle.reducer.specs.declared.standing.Standing.TheVariants.{Gathering, Settled, Void}
use Rattle.reducer.specs.declared.job.Job.{Job}

-- The first n points are different elements, and the rows beside them are the images of two tables there, all of degree k.
pub record Holds (K : Arithmetic) (a b : List ℕ) (k n : ℕ) (points : List ℕ) (images : Factored 496) : Type 0 where
  pub inside : (i : ℕ) → i < n → K.element (slice_index points i) ≡ true
  pub distinct : Distinct (take n points)
  pub are_images : (i : ℕ) → i < n → ImagesOf K a b (slice_index points i) k (cut_row 16 images.divisor i) (cut_row 16 images.left i) (cut_row 16 images.right i)

-- A job that gathers points for two tables.
pub record Gathers (K : Arithmetic) (a b : List ℕ) (j : Job) : Type 0 where
  pub opens : opening K a b ≡ None
  pub workings : WorkingsOf K a b j.workings
  pub holds : Holds K a b j.level j.counts.held j.points j.images

-- A settled job for two tables.
pub record Settles (K : Arithmetic) (a b : List ℕ) (j : Job) : Type 0 where
  pub opens : opening K a b ≡ None
  pub reduction : ReductionOf K a b j.reduction

-- by what the job is; over a field no job is void for want of a reciprocal
abbrev pub SoundAs : Standing → Arithmetic → (a b : List ℕ) → Job → Type 0
SoundAs Gathering K a b j = Gathers K a b j
SoundAs Settled K a b j = Settles K a b j
SoundAs (Void r) K a b j = IsField K → ¬ (number r ≡ 5)

-- What a job stores is so of the tables a and b. An opening gives it, and every call keeps it.
abbrev pub Sound : Arithmetic → (a b : List ℕ) → Job → Type 0
Sound K a b j = SoundAs j.standing K a b j

-- the element that a fault names, and 0 where a division did not come out even
abbrev pub element_of : DivisionFault → ℕ
element_of (Reciprocal (Foreign c)) = c
element_of (Reciprocal (NoReciprocal c)) = c
element_of Uneven = 0

-- the kind is no field, and c is an element that has no reciprocal, or 0
abbrev pub Lacks : Arithmetic → ℕ → Type 0
Lacks K c = (IsField K → ⊥) × (((K.element c ≡ true) × ((r : ℕ) → K.product c r ≢ K.one)) ⊎ (c ≡ 0))
