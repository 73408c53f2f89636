-- What the calls on a job promise, by the rules.
use Rattle.std.specs.Prelude.{◌≡◌, ℕ, suc, ◌⊎◌, List, [], ◌∷◌, ◌++◌, length, Some, None, Ok, Err, Option, Result}
use Rattle.coefficients.specs.Arithmetic.{Arithmetic, Laws, IsField}
use Rattle.rules.specs.declared.answer.Answer.{Answer}
use Rattle.rules.specs.declared.refusal.Refusal.{Refusal}
use Rattle.rules.specs.declared.refusal.Refusal.TheVariants.{NoField, Settled, Empty}
use Rattle.rules.specs.declared.refusal.Stage.TheVariants.{Opening}
use Rattle.rules.specs.Numbers.{number}
use Rattle.rules.specs.Job.{blocked, blocked_test, Pair, gathering, settled, State, counts, started, refused}
use Rattle.rules.specs.Offer.{offer}
use Rattle.rules.specs.Run.{Check, stop, go, check, Outcome, outcome, draw_on, run, Call, play, points_offered}
use Rattle.bivariate.specs.TwoUnknowns.{Reduced}
use Rattle.polynomials.specs.Elements.{table}
use Rattle.values.specs.Meaning.{scalars}
use Rattle.rulebook.specs.Pairs.{pair_of}
use Rattle.rulebook.specs.Opening.{opening, open_rule, OpeningLaw}
use Rattle.rulebook.specs.Collecting.{collected, collect_rule}
use Rattle.rulebook.specs.Law.{Whole, TableLaw, TableJob, LawOver}
use Rattle.reducer.specs.Sound.{Lacks}

-- What is still owed of the answers by which a job goes where the kind is no field: elements are those of the kind, and only what lacks a reciprocal stands in the way.
pub record Owed (K : Arithmetic) (pair : Pair) : Type 0 where
  pub element : (n : ℕ) → pair.element n ≡ K.element n
  pub at_point : (α c : ℕ) → pair.at_point α ≡ blocked c → Lacks K c
  pub test : (points : List ℕ) (c : ℕ) → pair.test points ≡ blocked_test c → Lacks K c

-- no refusal with the number 5
abbrev pub NotFive : Result Answer Refusal → Type 0
NotFive (Ok answer) = Unit {0}
NotFive (Err r) = ¬ (number r ≡ 5)

-- An offer of α to the job s for the tables a and b: over a field the rule's answer and job, and 5 is never answered; over any kind those of the rule, by what was found.
pub record Offered (K : Arithmetic) (a b : List ℕ) (s : State) (α : ℕ) (s' : State) (r : Result Answer Refusal) : Type 0 where
  pub over_field : IsField K → offer (pair_of K a b) s α ≡ (s', r)
  pub never_five : IsField K → NotFive r
  pub over_kind : (pair : Pair) × Owed K pair × (offer pair s α ≡ (s', r))

-- An opening for the tables a and b: the refusal of the first check that does not pass, and else a job that gathers; over a field the rule's job, and over another kind an element without a reciprocal may stand in the way.
pub record Opened (K : Arithmetic) (a b : List ℕ) (s : State) : Type 0 where
  pub refuses : (r : Refusal) → opening K a b ≡ Some r → s ≡ refused r
  pub over_field : IsField K → s ≡ open_rule K a b
  pub over_kind : opening K a b ≡ None → ((ceiling : ℕ) × (s ≡ started gathering ceiling)) ⊎ ((c : ℕ) × Lacks K c × (s ≡ refused (NoField c Opening)))

-- After an opening: over a field the law holds for every list of calls that may come.
abbrev pub Ahead : Arithmetic → (a b : List ℕ) → Type 0
Ahead K a b = OpeningLaw K a b × LawOver K a b

-- The rest of a run of n draws over any kind: each point is offered by the rule, with what is found there, before the next check.
pub data Draws (K : Arithmetic) (n : ℕ) : State → ℕ → List ℕ → Outcome → Type 0 where
  stops : (s : State) (drawn : ℕ) (waiting : List ℕ) (e : Result (Unit {0}) Refusal) → check s drawn n ≡ stop e → Draws K n s drawn waiting (outcome s waiting drawn e)
  empty : (s : State) (drawn : ℕ) → check s drawn n ≡ go → Draws K n s drawn [] (outcome s [] drawn (Err (Empty (counts s))))
  draws : (s : State) (drawn α : ℕ) (waiting : List ℕ) (end : Outcome) → check s drawn n ≡ go → (pair : Pair) → Owed K pair → Draws K n (offer pair s α).0 (suc drawn) waiting end → Draws K n s drawn (α ∷ waiting) end

-- what is checked before a draw, as an answer: nothing where the run goes on
abbrev pub CheckedAs : Check → Option (Result (Unit {0}) Refusal) → Type 0
CheckedAs c (Some e) = c ≡ stop e
CheckedAs c None = c ≡ go

-- Drawing from a waiting list for the job s, which was not settled before.
pub record Drawing (K : Arithmetic) (a b : List ℕ) (s : State) (n : ℕ) (waiting : List ℕ) (end : Outcome) : Type 0 where
  pub over_field : IsField K → draw_on (pair_of K a b) s 0 n waiting ≡ end
  pub over_kind : Draws K n s 0 waiting end

-- A run of n draws over a waiting list, for the job s: over a field the rule's outcome; over any kind a job that was settled before is refused, and else the points are drawn one by one.
pub record Runs (K : Arithmetic) (a b : List ℕ) (s : State) (n : ℕ) (waiting : List ℕ) (end : Outcome) : Type 0 where
  pub over_field : IsField K → run (pair_of K a b) s n waiting ≡ end
  pub settled_before : s.stage ≡ settled → end ≡ outcome s waiting 0 (Err (Settled 0))
  pub over_kind : ¬ (s.stage ≡ settled) → Draws K n s 0 waiting end

-- Collecting from the job s into tables of the lengths g, ca and cb that held d, l and r, and then hold d', l' and r': the rule's refusals, which leave the tables; and else the answer.
pub record Collects (K : Arithmetic) (a b : List ℕ) (s : State) (d l r d' l' r' : List ℕ) (answer : Result (Unit {0}) Refusal) : Type 0 where
  pub refusals : (e : Refusal) → answer ≡ Err e → (collect_rule K a b s (length d) (length l) (length r) ≡ Err e) × (d' ≡ d) × (l' ≡ l) × (r' ≡ r)
  pub collected : answer ≡ Ok tt → (collect_rule K a b s (length d) (length l) (length r) ≡ Ok (collected K a b s)) × Whole K d' × Whole K l' × Whole K r'
  -- over a field, the monic greatest common divisor and its cofactors
  pub reduced : answer ≡ Ok tt → (laws : Laws K) (only : IsField K) → Reduced (scalars laws only) (table laws a) (table laws b) (table laws d') (table laws l') (table laws r')
  -- .. and for a job that came of an opening and any list of calls, the tables of the rule
  pub by_rule : answer ≡ Ok tt → IsField K → (calls : List Call) → s ≡ (play (pair_of K a b) (open_rule K a b) calls).0 → collect_rule K a b s (length d) (length l) (length r) ≡ Ok (record { divisor = d'; cofactor_A = l'; cofactor_B = r' })

-- Over a field: s' comes of s by a call, and s of the opened job by any list of calls; then the law holds of s'.
abbrev pub After : Arithmetic → (a b : List ℕ) → (s : State) → Call → (s' : State) → Type 0
After K a b s call s' = (laws : Laws K) (only : IsField K) → opening K a b ≡ None → (law : TableLaw laws only a b) × ((calls : List Call) → s ≡ (play (pair_of K a b) (open_rule K a b) calls).0 → TableJob laws only a b law.p s' (points_offered (pair_of K a b) (calls ++ call ∷ [])))
