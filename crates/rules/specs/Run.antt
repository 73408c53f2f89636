-- The rule of a run, and lists of calls.
use Rattle.std.specs.Prelude.{ℕ, suc, cond, List, [], ◌∷◌, ◌++◌, take, Ok, Err, Result, ◌==◌, nat_le}
use Rattle.rules.specs.declared.answer.Answer.{Answer}
use Rattle.rules.specs.declared.answer.Ran.{Ran}
use Rattle.rules.specs.declared.refusal.Refusal.{Refusal}
use Rattle.rules.specs.declared.refusal.Refusal.TheVariants.{Settled, Full, Spent, Empty}
use Rattle.rules.specs.Job.{Pair, limit, gathering, settled, void, State, counts, opened}
use Rattle.rules.specs.Offer.{offer}

-- What is checked before a draw, but for the source: stop with this answer, or go on.
pub data Check : Type 0 where
  stop : Result (Unit {0}) Refusal → Check
  go : Check

-- void, settled, full, so many drawn
abbrev pub check : State → ℕ → ℕ → Check
check s drawn n =
    let by_draws = cond (drawn == n) (stop (Err (Spent (counts s)))) go in
    let by_room = cond (nat_le limit s.tally.offered) (stop (Err (Full (counts s)))) by_draws in
    elim s.stage [ void r ↦ stop (Err r) | settled ↦ stop (Ok tt) | gathering ↦ by_room ]

-- What a run leaves: the job, the list left waiting, and its answer.
pub record Outcome : Type 0 where
  pub state : State
  pub left : List ℕ
  pub answer : Ran

abbrev pub outcome : State → List ℕ → ℕ → Result (Unit {0}) Refusal → Outcome
outcome s left drawn ending = record { state = s; left = left; answer = record { drawn = drawn; ending = ending } }

abbrev pub either : Check → (Result (Unit {0}) Refusal → Outcome) → Outcome → Outcome
either (stop e) stopped more = stopped e
either go stopped more = more

-- the rest of a run of n draws that has drawn some: each point is offered before the next check
abbrev pub draw_on : Pair → State → ℕ → ℕ → List ℕ → Outcome
draw_on pair s drawn n [] = either (check s drawn n) (outcome s [] drawn) (outcome s [] drawn (Err (Empty (counts s))))
draw_on pair s drawn n (α ∷ waiting) =
    let more = draw_on pair (offer pair s α).0 (suc drawn) n waiting in
    either (check s drawn n) (outcome s (α ∷ waiting) drawn) more

-- only a job that is settled before the run gives a refusal for it
abbrev pub run : Pair → State → ℕ → List ℕ → Outcome
run pair s n waiting =
    let drawing = draw_on pair s 0 n waiting in
    elim s.stage [ void r ↦ drawing | settled ↦ outcome s waiting 0 (Err (Settled 0)) | gathering ↦ drawing ]

-- A call: one offer of a point, or a run over a waiting list with a number of draws.
pub data Call : Type 0 where
  offering : ℕ → Call
  running : List ℕ → ℕ → Call

-- What comes back: an offer's answer; or a run's answer and the list left waiting.
pub data Reply : Type 0 where
  to_offer : Result Answer Refusal → Reply
  to_run : Ran → List ℕ → Reply

abbrev pub called : Pair → State → Call → State × Reply
called pair s (offering α) = let o = offer pair s α in (o.0, to_offer o.1)
called pair s (running waiting n) = let r = run pair s n waiting in (r.state, to_run r.answer r.left)

abbrev pub play : Pair → State → List Call → State × List Reply
play pair s [] = (s, [])
play pair s (c ∷ cs) =
    let now = called pair s c in
    let rest = play pair now.0 cs in
    (rest.0, now.1 ∷ rest.1)

-- the points that a call brings: that of a single offer, refused or not, and those that a run draws
abbrev pub brought : Pair → State → Call → List ℕ
brought pair s (offering α) = α ∷ []
brought pair s (running waiting n) = take (run pair s n waiting).answer.drawn waiting

abbrev pub all_brought : Pair → State → List Call → List ℕ
all_brought pair s [] = []
all_brought pair s (c ∷ cs) = brought pair s c ++ all_brought pair (called pair s c).0 cs

-- the points offered: of all these the first 1,048,575
abbrev pub points_offered : Pair → List Call → List ℕ
points_offered pair calls = take limit (all_brought pair (opened pair) calls)
