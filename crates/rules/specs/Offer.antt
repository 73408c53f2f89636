-- The rule of an offer: first what the offer is found to be, then what is done.
use Rattle.std.specs.Prelude.{ℕ, ◌+◌, Bool, true, false, cond, not, ◌&&◌, ◌||◌, leb, List, [], ◌∷◌, ◌++◌, length, Ok, Err, Result, ◌==◌, nat_le, nat_lt}
use Rattle.rules.specs.declared.answer.Answer.{Answer}
use Rattle.rules.specs.declared.refusal.Refusal.{Refusal}
use Rattle.rules.specs.declared.refusal.Stage.TheVariants as Stage
use Rattle.rules.specs.Job.{Finding, zero_lead, image, blocked, Tested, passed, failed, blocked_test, Pair, limit, Tally, gathering, settled, void, State, counts}

-- What an offer is found to be. `high` and `fitting` have the degree of the image, `stuck` the element without a reciprocal.
pub data Class : Type 0 where
  voided : Refusal → Class
  full late foreign repeated vanishing : Class
  high fitting stuck : ℕ → Class

-- the point is one of these
abbrev pub member : ℕ → List ℕ → Bool
member α [] = false
member α (β ∷ βs) = α == β || member α βs

abbrev pub any : List ℕ → Bool
any [] = false
any (β ∷ βs) = true

-- k is at least the ceiling, or above the degree of the held points
abbrev pub too_high : State → ℕ → Bool
too_high s k = nat_le s.ceiling k || (any s.held && nat_lt s.level k)

abbrev pub by_finding : State → Finding → Class
by_finding s zero_lead = vanishing
by_finding s (image k) = cond (too_high s k) (high k) (fitting k)
by_finding s (blocked c) = stuck c

-- the first that applies: void, full, settled, no element, held already, and then what is found at the point
abbrev pub class_of : Pair → State → ℕ → Class
class_of pair s α =
    let found = by_finding s (pair.at_point α) in
    let by_held = cond (member α s.held) repeated found in
    let by_kind = cond (not (pair.element α)) foreign by_held in
    let no_room = leb limit s.tally.offered in
    elim s.stage [ void r ↦ voided r | settled ↦ cond no_room full late | gathering ↦ cond no_room full by_kind ]

-- a fitting point of degree k lets go of the held points of a degree above k, and is held after those that are kept
abbrev pub kept : State → ℕ → List ℕ
kept s k = cond (nat_lt k s.level) [] s.held

abbrev pub let_go : State → ℕ → ℕ
let_go s k = cond (nat_lt k s.level) (length s.held) 0

abbrev pub held_with : State → ℕ → ℕ → List ℕ
held_with s k α = kept s k ++ α ∷ []

-- What comes of a held point.
pub data Verdict : Type 0 where
  settles overturns stays : Verdict
  blocks : ℕ → Verdict

abbrev pub by_test : Tested → Verdict
by_test passed = settles
by_test failed = overturns
by_test (blocked_test c) = blocks c

-- an image of degree 0 settles the job; as many points as the closing number are tested
abbrev pub verdict_on : Pair → ℕ → List ℕ → Verdict
verdict_on pair k now =
    let tested = by_test (pair.test now) in
    let by_number = cond (length now == pair.closing) tested stays in
    cond (k == 0) settles by_number

-- one more offer, and so many more foreign, repeated, vanishing, high, late and dropped
abbrev pub raised : Tally → ℕ → ℕ → ℕ → ℕ → ℕ → ℕ → Tally
raised t f r v h l d = record {
  offered = t.offered + 1;
  foreign = t.foreign + f;
  repeated = t.repeated + r;
  vanishing = t.vanishing + v;
  high = t.high + h;
  late = t.late + l;
  dropped = t.dropped + d;
}

-- the job with another tally and nothing else changed
abbrev pub counting : State → Tally → State
counting s t = record { stage = s.stage; ceiling = s.ceiling; level = s.level; held = s.held; tally = t }

-- an element without a reciprocal makes the job void: the offer is counted, and in no class
abbrev pub made_void : State → ℕ → State × Result Answer Refusal
made_void s c =
    let r = Refusal.NoField c Stage.Offer in
    (record { stage = void r; ceiling = s.ceiling; level = s.level; held = s.held; tally = raised s.tally 0 0 0 0 0 0 }, Err r)

-- `now` is held, of degree k, and `gone` points were let go
abbrev pub conclude : State → ℕ → List ℕ → ℕ → Verdict → State × Result Answer Refusal
conclude s k now gone settles = (record { stage = settled; ceiling = s.ceiling; level = k; held = now; tally = raised s.tally 0 0 0 0 0 gone }, Ok (Answer.Settled k gone))
conclude s k now gone overturns =
    let all = gone + length now in
    (record { stage = gathering; ceiling = k; level = k; held = []; tally = raised s.tally 0 0 0 0 0 all }, Ok (Answer.Overturned k all))
conclude s k now gone stays =
    (record { stage = gathering; ceiling = s.ceiling; level = k; held = now; tally = raised s.tally 0 0 0 0 0 gone }, Ok (cond (gone == 0) (Answer.Held k gone) (Answer.Lowered k gone)))
conclude s k now gone (blocks c) = made_void s c

abbrev pub answered : Pair → State → ℕ → Class → State × Result Answer Refusal
answered pair s α (voided r) = (s, Err r)
answered pair s α full = (s, Err (Refusal.Full (counts s)))
answered pair s α late = (counting s (raised s.tally 0 0 0 0 1 0), Err (Refusal.Settled α))
answered pair s α foreign = (counting s (raised s.tally 1 0 0 0 0 0), Err (Refusal.ForeignPoint α))
answered pair s α repeated = (counting s (raised s.tally 0 1 0 0 0 0), Err (Refusal.Repeated α))
answered pair s α vanishing = (counting s (raised s.tally 0 0 1 0 0 0), Err (Refusal.Vanishing α))
answered pair s α (high k) = (counting s (raised s.tally 0 0 0 1 0 0), Err (Refusal.High α k))
answered pair s α (fitting k) = let now = held_with s k α in conclude s k now (let_go s k) (verdict_on pair k now)
answered pair s α (stuck c) = made_void s c

abbrev pub offer : Pair → State → ℕ → State × Result Answer Refusal
offer pair s α = answered pair s α (class_of pair s α)
