-- Two pairs by their images, one over no field, a void job and a full one, and what the rules answer there.
use Rattle.std.specs.Prelude.{◌≡◌, ℕ, suc, Bool, false, cond, List, [], ◌∷◌, map, Ok, Err, Result, ◌==◌, nat_eq, nat_lt}
use Rattle.rules.specs.declared.counts.Counts.{Counts}
use Rattle.rules.specs.declared.answer.Answer.TheVariants as Answer
use Rattle.rules.specs.declared.refusal.Refusal.{Refusal}
use Rattle.rules.specs.declared.refusal.Stage.TheVariants.{Offer}
use Rattle.rules.specs.Job.{zero_lead, image, blocked, Tested, passed, failed, blocked_test, Pair, Stage, gathering, settled, State, counts, opened, refused}
use Rattle.rules.specs.Offer.{offer}
use Rattle.rules.specs.Run.{outcome, run, Call, offering, running, Reply, to_offer, to_run, play}
use Rattle.rules.specs.Law.{Lawful}

-- the test passes where the first point has an image of degree d
abbrev pub passes_at : (ℕ → ℕ) → ℕ → List ℕ → Tested
passes_at degree d [] = failed
passes_at degree d (α ∷ points) = cond (degree α == d) passed failed

-- a pair modulo 11 by its images: where γ vanishes, the degrees elsewhere, the degree of G', the closing number and the first ceiling
abbrev pub by_images : (ℕ → Bool) → (ℕ → ℕ) → ℕ → ℕ → ℕ → Pair
by_images vanishes degree d closing ceiling = record {
  element = λ α. nat_lt α 11;
  at_point = λ α. cond (vanishes α) zero_lead (image (degree α));
  test = passes_at degree d;
  closing = closing;
  first_ceiling = ceiling;
}

-- A = (y²+3y)x³ + (y²+y+2)x² + (y+8)x and B = (y²+3y)x³ + yx²: γ = y + 3, and the image is of degree 2 but at 3, where it is of degree 3
abbrev pub quadratic : Pair
quadratic = by_images (λ α. nat_eq α 8) (λ α. cond (α == 3) 3 2) 2 4 4

-- A = x² + yx and B = x² + (2y+4)x + 2y + 3: without a common divisor, and with images of degree 1 at 1, 4 and 8
abbrev pub coprime : Pair
coprime = by_images (λ α. false) (λ α. cond (α == 1) 1 (cond (α == 4) 1 (cond (α == 8) 1 0))) 0 2 3

-- a pair over no field: at 1 the element 2 has no reciprocal, and the test comes upon 3, which has none
abbrev pub blocking : Pair
blocking = record {
  element = λ α. nat_lt α 6;
  at_point = λ α. cond (α == 1) (blocked 2) (image 1);
  test = λ points. blocked_test 3;
  closing = 2;
  first_ceiling = 3;
}

-- a job that holds one point, of degree 2, and to which n foreign points were offered
abbrev pub crowded : Stage → ℕ → State
crowded stage n = record {
  stage = stage;
  ceiling = 4;
  level = 2;
  held = 0 ∷ [];
  tally = record { offered = suc n; foreign = n; repeated = 0; vanishing = 0; high = 0; late = 0; dropped = 0 };
}

-- the calls answer so to an opened job, and these are its counts afterwards
abbrev pub Play : Pair → List Call → List Reply → Counts → Type 0
Play pair calls replies c = let end = play pair (opened pair) calls in (end.1 ≡ replies) × (counts end.0 ≡ c)

abbrev pub offers : List ℕ → List Call
offers points = map offering points

-- the reply to a run: the number drawn, the ending, and the list left waiting
abbrev pub ran : ℕ → Result (Unit {0}) Refusal → List ℕ → Reply
ran drawn ending left = to_run (record { drawn = drawn; ending = ending }) left

-- What the rules answer to some calls.
pub record Examples : Type 0 where
  pub quadratic_lawful : Lawful quadratic 2
  pub coprime_lawful : Lawful coprime 0
  -- five points of a counting source are drawn, and a second run finds the job settled
  pub counting_source : Play quadratic (running (0 ∷ 1 ∷ 2 ∷ 3 ∷ 4 ∷ 5 ∷ 6 ∷ []) 11 ∷ running (5 ∷ []) 1 ∷ [])
      (ran 5 (Ok tt) (5 ∷ 6 ∷ []) ∷ ran 0 (Err (Refusal.Settled 0)) (5 ∷ []) ∷ [])
      (record { offered = 5; foreign = 0; repeated = 0; vanishing = 0; high = 1; late = 0; dropped = 0; held = 4 })
  -- a point of too high a degree, held first, is let go
  pub single_offers : Play quadratic (offers (3 ∷ 3 ∷ 8 ∷ 11 ∷ 0 ∷ 1 ∷ 2 ∷ 4 ∷ 5 ∷ []))
      (map to_offer (Ok (Answer.Held 3 0) ∷ Err (Refusal.Repeated 3) ∷ Err (Refusal.Vanishing 8) ∷ Err (Refusal.ForeignPoint 11) ∷ Ok (Answer.Lowered 2 1) ∷
      Ok (Answer.Held 2 0) ∷ Ok (Answer.Held 2 0) ∷ Ok (Answer.Settled 2 0) ∷ Err (Refusal.Settled 5) ∷ []))
      (record { offered = 9; foreign = 1; repeated = 1; vanishing = 1; high = 0; late = 1; dropped = 1; held = 4 })
  -- the points are held in the order in which they came
  pub in_order : (play quadratic (opened quadratic) (offers (3 ∷ 4 ∷ 2 ∷ 1 ∷ 0 ∷ []))).0.held ≡ 4 ∷ 2 ∷ 1 ∷ 0 ∷ []
  -- two points pass for enough, the test overturns them, and a lucky one settles
  pub overturning : Play coprime (offers (1 ∷ 4 ∷ 8 ∷ 0 ∷ []))
      (map to_offer (Ok (Answer.Held 1 0) ∷ Ok (Answer.Overturned 1 2) ∷ Err (Refusal.High 8 1) ∷ Ok (Answer.Settled 0 0) ∷ []))
      (record { offered = 4; foreign = 0; repeated = 0; vanishing = 0; high = 1; late = 0; dropped = 2; held = 1 })
  -- draws are spent before the source is asked
  pub spent_draws : (let c : Counts = record { offered = 1; foreign = 0; repeated = 0; vanishing = 0; high = 0; late = 0; dropped = 0; held = 1 } in
      Play coprime (running (1 ∷ []) 1 ∷ running [] 0 ∷ running [] 1 ∷ [])
      (ran 1 (Err (Refusal.Spent c)) [] ∷ ran 0 (Err (Refusal.Spent c)) [] ∷ ran 0 (Err (Refusal.Empty c)) [] ∷ []) c)
  -- a job whose opening was refused answers that refusal, and stays as it is
  pub void_offer : (pair : Pair) (r : Refusal) (α : ℕ) → offer pair (refused r) α ≡ (refused r, Err r)
  pub void_run : (pair : Pair) (r : Refusal) (n : ℕ) (waiting : List ℕ) → run pair (refused r) n waiting ≡ outcome (refused r) waiting 0 (Err r)
  -- an element without a reciprocal, at a point or in the test, makes the job void for all later calls; the offer is counted, and in no class
  pub blocked_point : (let r = Refusal.NoField 2 Offer in
      Play blocking (running (0 ∷ 1 ∷ 2 ∷ []) 3 ∷ offering 2 ∷ running (2 ∷ []) 1 ∷ [])
      (ran 2 (Err r) (2 ∷ []) ∷ to_offer (Err r) ∷ ran 0 (Err r) (2 ∷ []) ∷ [])
      (record { offered = 2; foreign = 0; repeated = 0; vanishing = 0; high = 0; late = 0; dropped = 0; held = 1 }))
  pub blocked_in_test : (let r = Refusal.NoField 3 Offer in
      Play blocking (offers (0 ∷ 2 ∷ 3 ∷ []))
      (map to_offer (Ok (Answer.Held 1 0) ∷ Err r ∷ Err r ∷ []))
      (record { offered = 2; foreign = 0; repeated = 0; vanishing = 0; high = 0; late = 0; dropped = 0; held = 1 }))
  -- a full job stays as it is; a run names what it finds first, that the job is settled
  pub full_offer : (let s = crowded gathering 1048574 in offer quadratic s 1 ≡ (s, Err (Refusal.Full (counts s))))
  pub full_run : (let s = crowded gathering 1048574 in run quadratic s 2 (1 ∷ []) ≡ outcome s (1 ∷ []) 0 (Err (Refusal.Full (counts s))))
  pub full_settled_offer : (let s = crowded settled 1048574 in offer quadratic s 1 ≡ (s, Err (Refusal.Full (counts s))))
  pub full_settled_run : (let s = crowded settled 1048574 in run quadratic s 2 (1 ∷ []) ≡ outcome s (1 ∷ []) 0 (Err (Refusal.Settled 0)))
  -- the last offer that is taken
  pub filling_run : (let s = crowded gathering 1048573 in let t = crowded gathering 1048574 in
      run quadratic s 2 (11 ∷ 1 ∷ []) ≡ outcome t (1 ∷ []) 1 (Err (Refusal.Full (counts t))))
