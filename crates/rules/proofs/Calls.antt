-- Any list of calls keeps the invariant, over the first 1,048,575 of the points that the calls bring.
use Rattle.std.proofs.Common.{◌≡◌, ℕ, ◌<◌, ◌≤◌, min, cond, leb, ◌⊎◌, List, [], ◌∷◌, ◌++◌, length, take, refl, inl, inr, append_assoc, append-nil, arith, length-append, length-take, take_all}
use lib.Seq.{take-append-le}
use Rattle.std.proofs.lemmas.Bool.{cases_lt, cond-true, le-leb}
use Rattle.rules.specs.Job.{Pair, limit, gathering, settled, State, opened}
use Rattle.rules.specs.Offer.{Class, full, answered, offer}
use Rattle.rules.specs.Run.{run, Call, offering, running, called, play, brought, all_brought}
use Rattle.rules.specs.Law.{Lawful, after, RunLaw}
use Rattle.rules.proofs.Job.{by_stage}
use Rattle.rules.proofs.Invariant.{Invariant, offer_keeps}
use Rattle.rules.proofs.Run as Runs

-- a full job is left as it is
full_offer : (pair : Pair) (s : State) (α : ℕ) → limit ≤ s.tally.offered → (offer pair s α).0 ≡ s
full_offer pair s α h =
    let P : Class → Type 0 = λ c. (answered pair s α c).0 ≡ s in
    let no_room = leb limit s.tally.offered in
    let filled : (c : Class) → P (cond no_room full c) = λ c. rw (cond-true no_room full c (le-leb limit s.tally.offered h)) refl in
    by_stage P s.stage _ _ _ (λ r e. refl) (λ e. filled _) (λ e. filled _)

module _ (pair : Pair) (d : ℕ) (lawful : Lawful pair d) where
  -- the invariant, over the first of the points brought
  abbrev pub KeepsFirst : State → List ℕ → Type 0
  KeepsFirst s points = Invariant pair d s (take limit points)

  opened_keeps : KeepsFirst (opened pair) []
  opened_keeps = record {
    distinct = tt;
    among = λ β m. absurd m;
    images = λ β m. absurd m;
    ceiling = lawful.below_ceiling;
    balanced = refl;
    all_counted = refl;
    phase = inr (record { stage = refl; few = lawful.closing_some; positive = λ β m. absurd m; caught = λ β m l. m });
  }

  offered_keeps : (s : State) (points : List ℕ) (α : ℕ) → KeepsFirst s points → KeepsFirst (offer pair s α).0 (points ++ α ∷ [])
  offered_keeps s points α inv = go (cases_lt (length points) limit)
    where
      counted : s.tally.offered ≡ min limit (length points)
      counted = rw (← (length-take limit points)) inv.all_counted

      go : (length points < limit) ⊎ (limit ≤ length points) → KeepsFirst (offer pair s α).0 (points ++ α ∷ [])
      go (inl room) =
          let whole : take limit points ≡ points = take_all limit points (omega arith) in
          let longer : take limit (points ++ α ∷ []) ≡ points ++ α ∷ [] = take_all limit (points ++ α ∷ []) (omega (arith, length-append points (α ∷ []))) in
          rw longer (offer_keeps pair d lawful s points α (rw whole at inv) (omega (arith, counted)))
      go (inr l) = rw (take-append-le limit points (α ∷ []) l, full_offer pair s α (omega (arith, counted))) inv

  after_keeps : (more : List ℕ) (s : State) (points : List ℕ) → KeepsFirst s points → KeepsFirst (after pair s more) (points ++ more)
  after_keeps [] s points inv = rw append-nil inv
  after_keeps (α ∷ more) s points inv = rw (append_assoc points (α ∷ []) more) at (after_keeps more (offer pair s α).0 (points ++ α ∷ []) (offered_keeps s points α inv))

  pub stands : (s : State) (points : List ℕ) → Invariant pair d s points → (s.stage ≡ gathering) ⊎ (s.stage ≡ settled)
  stands s points inv = elim inv.phase [ inl f ↦ inr f.stage | inr g ↦ inl g.stage ]

  pub run_law : (s : State) (points : List ℕ) → KeepsFirst s points → (n : ℕ) (waiting : List ℕ) → RunLaw pair s n waiting (run pair s n waiting)
  run_law s points inv =
      let Good : State → Type 0 = λ t. (passed : List ℕ) × KeepsFirst t passed in
      Runs.run_law pair Good (λ t α g. (g.0 ++ α ∷ [], offered_keeps t g.0 α g.1)) (λ t g. stands t (take limit g.0) g.1) s (points, inv)

  called_keeps : (c : Call) (s : State) (points : List ℕ) → KeepsFirst s points → KeepsFirst (called pair s c).0 (points ++ brought pair s c)
  called_keeps (offering α) s points inv = offered_keeps s points α inv
  called_keeps (running waiting n) s points inv =
      let r = run pair s n waiting in
      rw (run_law s points inv n waiting).state (after_keeps (take r.answer.drawn waiting) s points inv)

  played_keeps : (calls : List Call) (s : State) (points : List ℕ) → KeepsFirst s points → KeepsFirst (play pair s calls).0 (points ++ all_brought pair s calls)
  played_keeps [] s points inv = rw append-nil inv
  played_keeps (c ∷ calls) s points inv =
      rw (append_assoc points (brought pair s c) (all_brought pair (called pair s c).0 calls)) at (played_keeps calls (called pair s c).0 (points ++ brought pair s c) (called_keeps c s points inv))

  pub calls_keep : (calls : List Call) → KeepsFirst (play pair (opened pair) calls).0 (all_brought pair (opened pair) calls)
  calls_keep calls = played_keeps calls (opened pair) [] opened_keeps
