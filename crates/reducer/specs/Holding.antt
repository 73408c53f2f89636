-- What an offered point is found to be, and what comes of one that can be held.
use Rattle.std.specs.Prelude.{◌≡◌, ℕ, ◌+◌, ◌<◌, ◌≤◌, true, false, cond, List, take, Some, None, Ok, Err, Result, nat_lt, slice_index}
use Rattle.coefficients.specs.Arithmetic.{Arithmetic}
use Rattle.rules.specs.declared.answer.Answer.{Answer}
use Rattle.rules.specs.declared.refusal.Refusal.{Refusal}
use Rattle.rules.specs.Job.{limit, Stage, State}
use Rattle.rules.specs.Offer.{member, too_high, raised}
use Rattle.steps.specs.declared.look.ImageRows.{ImageRows}
use Rattle.steps.specs.Look.{ImagesOf, Looking}
use Rattle.reducer.specs.declared.job.Job.{Job}
use Rattle.reducer.specs.declared.standing.Standing.TheVariants as Standing
use Rattle.reducer.specs.declared.offering.Phase.{Phase}
use Rattle.reducer.specs.declared.offering.Class.{Class}
use Rattle.reducer.specs.State.{tally_of, state_of}
use Rattle.reducer.specs.Sound.{Holds, Gathers, Sound}
use Rattle.reducer.specs.Promises.{Offered}

-- `phase_of`
abbrev pub Phased : Job → Phase → Type 0
Phased j (Phase.Void r) = j.standing ≡ Standing.Void r
Phased j Phase.Full = (¬ ((r : Refusal) × (j.standing ≡ Standing.Void r))) × (limit ≤ j.counts.offered)
Phased j Phase.Settled = (j.standing ≡ Standing.Settled) × (j.counts.offered < limit)
Phased j Phase.Gathering = (j.standing ≡ Standing.Gathering) × (j.counts.offered < limit)

-- an element that is not held
pub record Fresh (K : Arithmetic) (j : Job) (α : ℕ) : Type 0 where
  pub element : K.element α ≡ true
  pub apart : member α (state_of j).held ≡ false

-- `class_of`
abbrev pub Classed : Arithmetic → Job → (α : ℕ) → Class → Type 0
Classed K j α Class.Foreign = K.element α ≡ false
Classed K j α Class.Repeated = (K.element α ≡ true) × (member α (state_of j).held ≡ true)
Classed K j α Class.Vanishing = Fresh K j α × Looking K j.workings α (Ok None)
Classed K j α (Class.High k) = Fresh K j α × (too_high (state_of j) k ≡ true) × ((image : ImageRows) × (image.degree ≡ k) × Looking K j.workings α (Ok (Some image)))
Classed K j α (Class.Fitting image) = Fresh K j α × (too_high (state_of j) image.degree ≡ false) × Looking K j.workings α (Ok (Some image))
Classed K j α (Class.Stuck e) = Fresh K j α × Looking K j.workings α (Err e)

-- the workings, points and images of the job stand
pub record SameRows (j j' : Job) : Type 0 where
  pub workings : j'.workings ≡ j.workings
  pub points : j'.points ≡ j.points
  pub images : j'.images ≡ j.images

-- .. and what the job is, the degree and the number of the points, and the answer
pub record Kept (j j' : Job) : Type 0 where
  pub standing : j'.standing ≡ j.standing
  pub level : j'.level ≡ j.level
  pub held : j'.counts.held ≡ j.counts.held
  pub rows : SameRows j j'
  pub reduction : j'.reduction ≡ j.reduction

-- the job afterwards: one more offer, after which so many points were let go and the first so many are held
abbrev pub moved : Job → Stage → (ceiling level gone held : ℕ) → State
moved j stage ceiling level gone held = record {
  stage = stage;
  ceiling = ceiling;
  level = level;
  held = take held j.points;
  tally = raised (tally_of j.counts) 0 0 0 0 0 gone;
}

-- A point α that can be held by a job for the tables a and b, with its images.
pub record Fitting (K : Arithmetic) (a b : List ℕ) (j : Job) (α : ℕ) (image : ImageRows) : Type 0 where
  pub standing : j.standing ≡ Standing.Gathering
  pub gathers : Gathers K a b j
  pub fresh : Fresh K j α
  pub low : too_high (state_of j) image.degree ≡ false
  pub images : ImagesOf K a b α image.degree image.rows.divisor image.rows.left image.rows.right

-- what an offer of α makes of the job j, for all tables of which it is sound
abbrev pub Promised : Arithmetic → (Fits : (a b : List ℕ) → Type 0) → Job → (α : ℕ) → Job → Result Answer Refusal → Type 0
Promised K Fits j α j' r = (a b : List ℕ) → Fits a b → Offered K a b (state_of j) α (state_of j') r × Sound K a b j'

-- the last place of the job j is written already: with it the points are as many as the closing number, all of degree k
pub record Complete (K : Arithmetic) (a b : List ℕ) (j : Job) (k : ℕ) : Type 0 where
  pub standing : j.standing ≡ Standing.Gathering
  pub gathers : Gathers K a b j
  pub fresh : Fresh K j (slice_index j.points j.counts.held)
  pub low : too_high (state_of j) k ≡ false
  pub some : ¬ (k ≡ 0)
  pub all_kept : cond (nat_lt k j.level) 0 j.counts.held ≡ j.counts.held
  pub number : j.counts.held + 1 ≡ j.workings.closing
  pub holds : Holds K a b k (j.counts.held + 1) j.points j.images
