-- The law, from what the calls keep.
use Rattle.std.proofs.Common.{◌≡◌, ℕ, ◌+◌, ◌<◌, ◌≤◌, min, true, false, eqb, ◌⊎◌, ◌↔◌, List, [], ◌∷◌, length, take, refl, inl, inr, arith, length-take}
use Rattle.std.proofs.lemmas.Bool.{cond_both, ne_eqb, both_ways, cases_Bool, cases_eq}
use Rattle.algebra.specs.Lists.{All, Distinct}
use Rattle.rules.specs.Job.{Finding, zero_lead, image, blocked, Pair, limit, settled, State, opened}
use Rattle.rules.specs.Run.{play, all_brought}
use Rattle.rules.specs.Points.{Among, AtMost, Number}
use Rattle.rules.specs.Law.{Lawful, Lucky, Unlucky, need, JobLaw, Law}
use Rattle.rules.proofs.Points.{all_each, each_all, no_more, number_at_least, number_unique, number_exists, parted}
use Rattle.rules.proofs.Job.{gathering_settled}
use Rattle.rules.proofs.Invariant.{Invariant, Gathering, one_degree}
use Rattle.rules.proofs.Calls.{stands, run_law, calls_keep}

lucky_decided : (pair : Pair) (d α : ℕ) → Lucky pair d α ⊎ (¬ Lucky pair d α)
lucky_decided pair d α = go (cases_Bool (pair.element α)) (pair.at_point α) refl
  where
    by_degree : pair.element α ≡ true → (k : ℕ) → pair.at_point α ≡ image k → (k ≡ d) ⊎ (k ≡ d → ⊥) → Lucky pair d α ⊎ (¬ Lucky pair d α)
    by_degree e k f (inl same) = inl (record { element = e; found = rw (← same) f })
    by_degree e k f (inr other) = inr (λ l. other (cc (f, l.found)))

    go : (pair.element α ≡ true) ⊎ (pair.element α ≡ false) → (f : Finding) → pair.at_point α ≡ f → Lucky pair d α ⊎ (¬ Lucky pair d α)
    go (inr e) f is = inr (λ l. both_ways (pair.element α) e l.element)
    go (inl e) zero_lead is = inr (λ l. let z : ◌≡◌ {A = ℕ} 0 1 = cc l.found in omega arith)
    go (inl e) (image k) is = by_degree e k is (cases_eq k d)
    go (inl e) (blocked c) is = inr (λ l. let z : ◌≡◌ {A = ℕ} 0 1 = cc l.found in omega arith)

-- A job of which the invariant holds.
module _ (pair : Pair) (d : ℕ) (lawful : Lawful pair d) (s : State) (points : List ℕ) (inv : Invariant pair d s points) where
  need_some : 0 < need pair d
  need_some = cond_both (eqb d 0) 1 pair.closing (λ n. 0 < n) (λ e. omega arith) (λ e. lawful.closing_some)

  -- a job that holds points of the degree of G' holds no more lucky points than were offered
  held_no_more : s.level ≡ d → (lucky : ℕ) → Number (Lucky pair d) points lucky → length s.held ≤ lucky
  held_no_more e lucky c = number_at_least (Lucky pair d) points lucky c s.held inv.distinct (λ β m. (inv.among β m, rw (← e) (inv.images β m)))

  module _ (g : Gathering pair d s points) where
    caught_all : (lucky : ℕ) → Number (Lucky pair d) points lucky → lucky ≤ length s.held
    caught_all lucky c = rw (← c.size) (no_more c.list s.held c.distinct (λ β m. let b = (c.exact β).0 m in g.caught β b.0 b.1))

    -- once a lucky point was offered, the held points are lucky, and more are needed
    once_lucky : (α : ℕ) → Among α points → Lucky pair d α → (s.level ≡ d) × (length s.held < need pair d)
    once_lucky α m l =
        let same : s.level ≡ d = one_degree pair s.level d α (inv.images α (g.caught α m l)) l in
        let some : 0 < s.level = g.positive α (g.caught α m l) in
        (same, rw (ne_eqb d 0 (λ z. omega arith)) g.few)

    still_short : (lucky : ℕ) → Number (Lucky pair d) points lucky → lucky < need pair d
    still_short lucky c = go c.list refl
      where
        go : (list : List ℕ) → c.list ≡ list → lucky < need pair d
        go [] e = omega (arith, rw e at c.size, need_some)
        go (α ∷ list) e = let b = (c.exact α).0 (rw e (inl refl)) in omega (arith, (once_lucky α b.0 b.1).1, caught_all lucky c)

  settled_exactly : (lucky : ℕ) → Number (Lucky pair d) points lucky → (s.stage ≡ settled) ↔ (need pair d ≤ lucky)
  settled_exactly lucky c = elim inv.phase [
    | inl f ↦ (λ e. omega (arith, f.enough, held_no_more f.level lucky c), λ h. f.stage)
    | inr g ↦ (λ e. absurd (gathering_settled s.stage g.stage e), λ h. absurd (omega (arith, still_short g lucky c)))
  ]

  held_lucky : (lucky : ℕ) → Number (Lucky pair d) points lucky → (α : ℕ) → Among α points → Lucky pair d α → length s.held ≡ min lucky (need pair d)
  held_lucky lucky c α m l = elim inv.phase [
    | inl f ↦ omega (arith, f.enough, held_no_more f.level lucky c)
    | inr g ↦ let once = once_lucky g α m l in omega (arith, once.1, caught_all g lucky c, held_no_more once.0 lucky c)
  ]

  settled_holds : s.stage ≡ settled → Distinct s.held × All (Lucky pair d) s.held × (length s.held ≡ need pair d) × (s.level ≡ d)
  settled_holds e = elim inv.phase [
    | inl f ↦ (inv.distinct, each_all (Lucky pair d) s.held (rw (← f.level) inv.images), f.enough, f.level)
    | inr g ↦ absurd (gathering_settled s.stage g.stage e)
  ]

  settled_by_many : (M : ℕ) → AtMost M (Unlucky pair d) → (elements : List ℕ) → Distinct elements →
      All (λ α. (pair.element α ≡ true) × Among α points) elements → M + need pair d ≤ length elements → s.stage ≡ settled
  settled_by_many M bound elements distinct all size =
      let each = all_each (λ α. (pair.element α ≡ true) × Among α points) elements all in
      let p = parted (Lucky pair d) (lucky_decided pair d) elements distinct in
      let c = number_exists (Lucky pair d) (lucky_decided pair d) points in
      let few = bound p.others p.others_distinct (each_all (Unlucky pair d) p.others (λ β m. let o = p.others_each β m in ((each β o.0).0, o.1))) in
      let many = number_at_least (Lucky pair d) points c.0 c.1 p.those p.those_distinct (λ β m. let o = p.those_each β m in ((each β o.0).1, o.1)) in
      (settled_exactly c.0 c.1).1 (omega (arith, p.sizes))

  job_law : length points ≤ limit → JobLaw pair d s points
  job_law bounded = record {
    stands = stands pair d lawful s points inv;
    counted = number_exists (Lucky pair d) (lucky_decided pair d) points;
    one_number = number_unique (Lucky pair d) points;
    settled_exactly = settled_exactly;
    all_counted = inv.all_counted;
    bounded = bounded;
    balanced = inv.balanced;
    held_lucky = held_lucky;
    settled_holds = settled_holds;
    settled_by_many = settled_by_many;
  }

pub law : Law
law pair d lawful calls =
    let s = (play pair (opened pair) calls).0 in
    let points = all_brought pair (opened pair) calls in
    let inv = calls_keep pair d lawful calls in
    (job_law pair d lawful s (take limit points) inv (omega (arith, length-take limit points)), run_law pair d lawful s points inv)
