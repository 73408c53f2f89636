-- The law of a job over any list of calls: lucky points, how many different ones were offered, and what is settled by them.
use Rattle.std.specs.Prelude.{◌≡◌, ℕ, ◌+◌, ◌<◌, ◌≤◌, min, true, cond, ◌⊎◌, ◌↔◌, List, [], map, length, take, drop, Ok, Err, Result, ◌==◌}
use Rattle.algebra.specs.Lists.{All, Distinct}
use Rattle.rules.specs.declared.counts.Counts.{Counts}
use Rattle.rules.specs.declared.refusal.Refusal.{Refusal}
use Rattle.rules.specs.declared.refusal.Refusal.TheVariants.{Settled, Full, Spent, Empty}
use Rattle.rules.specs.Points.{Among, AtMost, Number}
use Rattle.rules.specs.Job.{image, zero_lead, passed, failed, Pair, limit, gathering, settled, State, counts, opened}
use Rattle.rules.specs.Run.{Outcome, run, Call, offering, play, points_offered}

-- an element whose image is of degree k
pub record ImageOf (pair : Pair) (k : ℕ) (α : ℕ) : Type 0 where
  pub element : pair.element α ≡ true
  pub found : pair.at_point α ≡ image k

-- What the algebra gives, over a field, of a pair whose greatest common divisor G' has degree d in x.
pub record Lawful (pair : Pair) (d : ℕ) : Type 0 where
  -- at an element γ vanishes or there is an image, and none is of lower degree than G'
  pub finds : (α : ℕ) → pair.element α ≡ true → ¬ (pair.at_point α ≡ zero_lead) → (k : ℕ) × (d ≤ k) × (pair.at_point α ≡ image k)
  pub below_ceiling : d < pair.first_ceiling
  pub closing_some : 0 < pair.closing
  -- the test of as many different points as the closing number, of one degree, passes where that is the degree of G', and fails elsewhere
  pub passes : (points : List ℕ) → length points ≡ pair.closing → Distinct points → All (ImageOf pair d) points → pair.test points ≡ passed
  pub fails : (points : List ℕ) (k : ℕ) → length points ≡ pair.closing → Distinct points → All (ImageOf pair k) points → ¬ (k ≡ d) → pair.test points ≡ failed

-- a point whose image is of the degree of G'
abbrev pub Lucky : Pair → ℕ → ℕ → Type 0
Lucky pair d α = ImageOf pair d α

-- how many lucky points settle a job
abbrev pub need : Pair → ℕ → ℕ
need pair d = cond (d == 0) 1 pair.closing

-- an element that is not lucky
abbrev pub Unlucky : Pair → ℕ → ℕ → Type 0
Unlucky pair d α = (pair.element α ≡ true) × (¬ Lucky pair d α)

-- each offer is counted once
abbrev pub Balanced : Counts → Type 0
Balanced c = c.offered ≡ c.foreign + c.repeated + c.vanishing + c.high + c.late + c.dropped + c.held

-- What holds of a job to which these points were offered.
pub record JobLaw (pair : Pair) (d : ℕ) (s : State) (points : List ℕ) : Type 0 where
  -- the job is never void
  pub stands : (s.stage ≡ gathering) ⊎ (s.stage ≡ settled)
  -- the number of different lucky points offered: there is one, and just one
  pub counted : (lucky : ℕ) × Number (Lucky pair d) points lucky
  pub one_number : (m n : ℕ) → Number (Lucky pair d) points m → Number (Lucky pair d) points n → m ≡ n
  -- the job is settled exactly when at least as many different lucky points as it needs were offered
  pub settled_exactly : (lucky : ℕ) → Number (Lucky pair d) points lucky → (s.stage ≡ settled) ↔ (need pair d ≤ lucky)
  -- offered is the number of points offered, and each is counted in one class
  pub all_counted : s.tally.offered ≡ length points
  pub bounded : length points ≤ limit
  pub balanced : Balanced (counts s)
  -- once a lucky point was offered, held is the number of different ones, or need where that is less
  pub held_lucky : (lucky : ℕ) → Number (Lucky pair d) points lucky → (α : ℕ) → Among α points → Lucky pair d α → (counts s).held ≡ min lucky (need pair d)
  -- a settled job holds different lucky points, as many as it needs
  pub settled_holds : s.stage ≡ settled → Distinct s.held × All (Lucky pair d) s.held × (length s.held ≡ need pair d) × (s.level ≡ d)
  -- given that at most M different elements are not lucky: once the points offered include M + need different elements, the job is settled
  pub settled_by_many : (M : ℕ) → AtMost M (Unlucky pair d) → (elements : List ℕ) → Distinct elements →
      All (λ α. (pair.element α ≡ true) × Among α points) elements → M + need pair d ≤ length elements → s.stage ≡ settled

-- the job after single offers of these points
abbrev pub after : Pair → State → List ℕ → State
after pair s points = (play pair s (map offering points)).0

-- gathering, and not full
abbrev pub Ready : State → Type 0
Ready s = (s.stage ≡ gathering) × (s.tally.offered < limit)

-- The causes for which a run of n draws, begun with the job s, can stop. No two of them can be at once.
pub data Because (s : State) (n : ℕ) (r : Outcome) : Result (Unit {0}) Refusal → Type 0 where
  settled_before : s.stage ≡ settled → Because s n r (Err (Settled 0))
  settled_by_it : s.stage ≡ gathering → r.state.stage ≡ settled → Because s n r (Ok tt)
  full_job : s.stage ≡ gathering → r.state.stage ≡ gathering → limit ≤ r.state.tally.offered → Because s n r (Err (Full (counts r.state)))
  spent_draws : s.stage ≡ gathering → Ready r.state → r.answer.drawn ≡ n → Because s n r (Err (Spent (counts r.state)))
  empty_source : s.stage ≡ gathering → Ready r.state → r.answer.drawn < n → r.left ≡ [] → Because s n r (Err (Empty (counts r.state)))

-- A run draws until the job is settled or full, its draws are spent or its source is empty, and no further.
pub record RunLaw (pair : Pair) (s : State) (n : ℕ) (waiting : List ℕ) (r : Outcome) : Type 0 where
  pub within : (r.answer.drawn ≤ n) × (r.answer.drawn ≤ length waiting)
  -- the drawn points are offered one by one, and the rest stays waiting
  pub state : r.state ≡ after pair s (take r.answer.drawn waiting)
  pub left : r.left ≡ drop r.answer.drawn waiting
  -- before each draw there was no cause to stop
  pub no_further : (i : ℕ) → i < r.answer.drawn → Ready (after pair s (take i waiting))
  -- after the last there was one, which the answer names, and no other
  pub because : Because s n r r.answer.ending
  pub no_other : (e : Result (Unit {0}) Refusal) → Because s n r e → e ≡ r.answer.ending

-- After any list of calls from the opened job, and for any run then.
abbrev pub Law : Type 0
Law = (pair : Pair) (d : ℕ) → Lawful pair d → (calls : List Call) →
    let s = (play pair (opened pair) calls).0 in
    JobLaw pair d s (points_offered pair calls) × ((n : ℕ) (waiting : List ℕ) → RunLaw pair s n waiting (run pair s n waiting))
