-- What the checks of an opening answer, and what the job is that comes of them.
use Rattle.std.specs.Prelude.{◌≡◌, ℕ, ◌<◌, List, length, Some, None, Ok, Err, Result, ◌≢◌}
use Rattle.coefficients.specs.Arithmetic.{Arithmetic, IsField}
use Rattle.polynomials.specs.Rows.{Inside, FirstForeign, Sized}
use Rattle.rules.specs.declared.refusal.Table.{Table}
use Rattle.rules.specs.declared.refusal.Stage.TheVariants.{Opening}
use Rattle.rules.specs.declared.refusal.Refusal.{Refusal}
use Rattle.rules.specs.declared.refusal.Refusal.TheVariants.{Length, ForeignCode, Zero, NoField}
use Rattle.rules.specs.Numbers.{number}
use Rattle.rules.specs.Job.{started, refused}
use Rattle.steps.specs.declared.prepare.Workings.{Workings}
use Rattle.rulebook.specs.Opening.{opening}
use Rattle.reducer.specs.declared.standing.Standing.{Standing}
use Rattle.reducer.specs.declared.standing.Standing.TheVariants.{Void}
use Rattle.reducer.specs.declared.job.Job.{Job}
use Rattle.reducer.specs.State.{stage_of, state_of}

-- `check_length`: there are 256 codes, or the refusal says how many
abbrev pub Long : Table → List ℕ → Result (Unit {0}) Refusal → Type 0
Long name t (Ok u) = length t ≡ 256
Long name t (Err r) = (r ≡ Length name (length t)) × (¬ (length t ≡ 256))

-- `check_elements`: all codes are elements, or the refusal names the first that is none
abbrev pub AllElements : Arithmetic → Table → List ℕ → Result (Unit {0}) Refusal → Type 0
AllElements K name t (Ok u) = Inside K t
AllElements K name t (Err r) = (place : ℕ) × (code : ℕ) × (r ≡ ForeignCode name place code) × FirstForeign K t place code

-- `check_some`: one more than the place of the last code that is not zero, or the refusal of zeros
abbrev pub SomeCode : Arithmetic → Table → List ℕ → Result ℕ Refusal → Type 0
SomeCode K name t (Ok n) = Sized K t n × (0 < n)
SomeCode K name t (Err r) = (r ≡ Zero name) × Sized K t 0

-- `check_lead`: the element e has a reciprocal, or the refusal names it, and it has none
abbrev pub Leads : Arithmetic → (e : ℕ) → Result (Unit {0}) Refusal → Type 0
Leads K e (Ok u) = (r : ℕ) × (K.product e r ≡ K.one)
Leads K e (Err r) = (r ≡ NoField e Opening) × ((q : ℕ) → K.product e q ≢ K.one)

-- `check`: the rule's refusal, or that the opening is not refused; over a field no element lacks a reciprocal
abbrev pub Checked : Arithmetic → (a b : List ℕ) → Result (Unit {0}) Refusal → Type 0
Checked K a b (Ok u) = opening K a b ≡ None
Checked K a b (Err r) = (opening K a b ≡ Some r) × (IsField K → ¬ (number r ≡ 5))

-- `begin`: a job that holds nothing yet, with these workings
pub record Begun (standing : Standing) (workings : Workings) (j : Job) : Type 0 where
  pub stands : j.standing ≡ standing
  pub works : j.workings ≡ workings
  pub none : j.counts.held ≡ 0
  pub state : state_of j ≡ started (stage_of standing) workings.ceiling

-- `refuse`: a void job
pub record Voided (r : Refusal) (j : Job) : Type 0 where
  pub stands : j.standing ≡ Void r
  pub state : state_of j ≡ refused r
