-- The invariant of a job over a lawful pair, and that every offer keeps it.
use Rattle.std.proofs.Common.{◌≡◌, ℕ, ◌+◌, ◌<◌, ◌≤◌, Bool, true, false, cond, ltb, ◌⊎◌, List, [], ◌∷◌, ◌++◌, length, refl, inl, inr, arith}
use Rattle.std.proofs.lemmas.Bool.{ltb-true, ltb-false, eq-eqb, ne_eqb, both_ways, cases_eq}
use Rattle.algebra.specs.Lists.{Distinct}
use Rattle.rules.specs.Job.{image, zero_lead, blocked, Tested, passed, failed, blocked_test, Pair, limit, Tally, gathering, settled, State, counts}
use Rattle.rules.specs.Offer.{Class, voided, full, late, foreign, repeated, vanishing, high, fitting, stuck, class_of, kept, let_go, held_with, Verdict, settles, overturns, stays, blocks, verdict_on, counting, conclude, answered, offer}
use Rattle.rules.specs.Points.{Among}
use Rattle.rules.specs.Law.{ImageOf, Lawful, Lucky, need, Balanced}
use Rattle.rules.proofs.Points.{Each, each_all, among_left, among_last, among_pushed, length_pushed, distinct_push}
use Rattle.rules.proofs.Job.{gathering_settled, gathering_void, settled_void}
use Rattle.rules.proofs.Offer.{Above, Found, found, Ruled, ruled}

-- a settled job holds as many lucky points as it needs
pub record Done (pair : Pair) (d : ℕ) (s : State) : Type 0 where
  pub stage : s.stage ≡ settled
  pub level : s.level ≡ d
  pub enough : length s.held ≡ need pair d

-- a job that gathers holds every lucky point that was offered
pub record Gathering (pair : Pair) (d : ℕ) (s : State) (points : List ℕ) : Type 0 where
  pub stage : s.stage ≡ gathering
  pub few : length s.held < pair.closing
  pub positive : Each (λ β. 0 < s.level) s.held
  pub caught : (β : ℕ) → Among β points → Lucky pair d β → Among β s.held

-- What holds of a job to which these points were offered.
pub record Invariant (pair : Pair) (d : ℕ) (s : State) (points : List ℕ) : Type 0 where
  pub distinct : Distinct s.held
  pub among : Each (λ β. Among β points) s.held
  pub images : Each (ImageOf pair s.level) s.held
  pub ceiling : d < s.ceiling
  pub phase : Done pair d s ⊎ Gathering pair d s points
  pub balanced : Balanced (counts s)
  pub all_counted : s.tally.offered ≡ length points

pub one_degree : (pair : Pair) (k l α : ℕ) → ImageOf pair k α → ImageOf pair l α → k ≡ l
one_degree pair k l α a b = cc (a.found, b.found)

image_stands : (pair : Pair) (k α : ℕ) → ImageOf pair k α → ¬ (pair.at_point α ≡ zero_lead)
image_stands pair k α i v = let z : ◌≡◌ {A = ℕ} 0 1 = cc i.found in omega arith

passed_failed : (t : Tested) → t ≡ passed → ¬ (t ≡ failed)
passed_failed t e f = let z : ◌≡◌ {A = ℕ} 0 1 = cc in omega arith

passed_blocked : (t : Tested) (c : ℕ) → t ≡ passed → ¬ (t ≡ blocked_test c)
passed_blocked t c e f = let z : ◌≡◌ {A = ℕ} 0 1 = cc in omega arith

failed_blocked : (t : Tested) (c : ℕ) → t ≡ failed → ¬ (t ≡ blocked_test c)
failed_blocked t c e f = let z : ◌≡◌ {A = ℕ} 0 1 = cc in omega arith

-- what the test finds, by the degree k of the points
abbrev Decided : Pair → ℕ → ℕ → List ℕ → Type 0
Decided pair d k points = ((k ≡ d) × (pair.test points ≡ passed)) ⊎ ((¬ (k ≡ d)) × (pair.test points ≡ failed))

module _ (pair : Pair) (d : ℕ) (lawful : Lawful pair d) where
  at_least : (k α : ℕ) → ImageOf pair k α → d ≤ k
  at_least k α i =
      let f = lawful.finds α i.element (image_stands pair k α i) in
      let same : k ≡ f.0 = cc (i.found, f.2) in
      omega (arith, f.1)

  never_stuck : (α c : ℕ) → pair.element α ≡ true → ¬ (pair.at_point α ≡ blocked c)
  never_stuck α c element e =
      let other : ¬ (pair.at_point α ≡ zero_lead) = λ v. let z : ◌≡◌ {A = ℕ} 0 1 = cc in omega arith in
      let f = lawful.finds α element other in
      let z : ◌≡◌ {A = ℕ} 0 1 = cc f.2 in
      omega arith

  decided : (points : List ℕ) (k : ℕ) → length points ≡ pair.closing → Distinct points → Each (ImageOf pair k) points → Decided pair d k points
  decided points k size distinct images = go (cases_eq k d)
    where
      go : (k ≡ d) ⊎ (¬ (k ≡ d)) → Decided pair d k points
      go (inl e) = inl (e, lawful.passes points size distinct (each_all (ImageOf pair d) points (rw (← e) images)))
      go (inr n) = inr (n, lawful.fails points k size distinct (each_all (ImageOf pair k) points images) n)

  -- An offer to a job of which the invariant holds.
  module _ (s : State) (points : List ℕ) (α : ℕ) (inv : Invariant pair d s points) where
    -- an offer that only counts
    only_counted : (t : Tally) → t.offered ≡ s.tally.offered + 1 → Balanced (counts (counting s t)) → (s.stage ≡ gathering → Lucky pair d α → Among α s.held) →
        Invariant pair d (counting s t) (points ++ α ∷ [])
    only_counted t one balanced old = record {
      distinct = inv.distinct;
      among = λ β m. among_left β points (α ∷ []) (inv.among β m);
      images = inv.images;
      ceiling = inv.ceiling;
      phase = same inv.phase;
      balanced = balanced;
      all_counted = omega (arith, one, inv.all_counted, length_pushed points α);
    }
      where
        same : Done pair d s ⊎ Gathering pair d s points → Done pair d (counting s t) ⊎ Gathering pair d (counting s t) (points ++ α ∷ [])
        same (inl e) = inl (record { stage = e.stage; level = e.level; enough = e.enough })
        same (inr g) = inr (record {
          stage = g.stage;
          few = g.few;
          positive = g.positive;
          caught = λ β m l. elim (among_pushed β points α m) [ inl k ↦ g.caught β k l | inr e ↦ rw e (old g.stage (rw e at l)) ];
        })

    -- a lucky point is never high
    not_high : (k : ℕ) → pair.at_point α ≡ image k → Above s k → ¬ Lucky pair d α
    not_high k e (inl c) l =
        let same : k ≡ d = cc l.found in
        omega (arith, inv.ceiling)
    not_high k e (inr h) l =
        let same : k ≡ d = cc l.found in
        omega (arith, h.2, at_least s.level h.0 (inv.images h.0 h.1))

    -- A fitting point, while the job gathers.
    module _ (g : Gathering pair d s points) (k : ℕ) (fits : ImageOf pair k α) (new : ¬ Among α s.held) (low : Each (λ β. k ≤ s.level) s.held) where
      -- the held points that a fitting point leaves, and how many are gone
      record Left (rest : List ℕ) (gone : ℕ) : Type 0 where
        distinct : Distinct rest
        new_there : ¬ Among α rest
        among : Each (λ β. Among β points) rest
        images : Each (ImageOf pair k) rest
        caught : (β : ℕ) → Among β points → Lucky pair d β → Among β rest
        sizes : gone + length rest ≡ length s.held
        none_at_zero : k ≡ 0 → length rest ≡ 0

      none_held : (xs : List ℕ) → Each (λ β. ⊥) xs → length xs ≡ 0
      none_held [] h = refl
      none_held (x ∷ xs) h = absurd (h x (inl refl))

      left_of : (b : Bool) → ltb k s.level ≡ b → Left (cond b [] s.held) (cond b (length s.held) 0)
      left_of true e = record {
        distinct = tt;
        new_there = λ m. m;
        among = λ β m. absurd m;
        images = λ β m. absurd m;
        sizes = omega arith;
        none_at_zero = λ z. refl;
        caught = λ β m l. omega (arith, ltb-true _ _ e, at_least k α fits, one_degree pair s.level d β (inv.images β (g.caught β m l)) l);
      }
      left_of false e = record {
        distinct = inv.distinct;
        new_there = new;
        among = inv.among;
        sizes = omega arith;
        caught = g.caught;
        images = λ β m.
            let same : s.level ≡ k = omega (arith, ltb-false _ _ e, low β m) in
            rw (← same) (inv.images β m);
        none_at_zero = λ z. none_held s.held (λ β m. omega (arith, ltb-false _ _ e, g.positive β m));
      }

      left : Left (kept s k) (let_go s k)
      left = left_of (ltb k s.level) refl

      now_distinct : Distinct (held_with s k α)
      now_distinct = distinct_push (kept s k) α left.distinct left.new_there

      now_among : Each (λ β. Among β (points ++ α ∷ [])) (held_with s k α)
      now_among β m = elim (among_pushed β (kept s k) α m) [ inl h ↦ among_left β points (α ∷ []) (left.among β h) | inr e ↦ rw e (among_last α points) ]

      now_images : Each (ImageOf pair k) (held_with s k α)
      now_images β m = elim (among_pushed β (kept s k) α m) [ inl h ↦ left.images β h | inr e ↦ rw e fits ]

      now_caught : (β : ℕ) → Among β (points ++ α ∷ []) → Lucky pair d β → Among β (held_with s k α)
      now_caught β m l = elim (among_pushed β points α m) [ inl h ↦ among_left β (kept s k) (α ∷ []) (left.caught β h l) | inr e ↦ rw e (among_last α (kept s k)) ]

      now_sizes : let_go s k + length (held_with s k α) ≡ length s.held + 1
      now_sizes = omega (arith, left.sizes, length_pushed (kept s k) α)

      now_single : k ≡ 0 → length (held_with s k α) ≡ 1
      now_single z = omega (arith, left.none_at_zero z, length_pushed (kept s k) α)

      now_decided : length (held_with s k α) ≡ pair.closing → Decided pair d k (held_with s k α)
      now_decided size = decided (held_with s k α) k size now_distinct now_images

      concluded : (v : Verdict) → Ruled pair k (held_with s k α) v → Invariant pair d (conclude s k (held_with s k α) (let_go s k) v).0 (points ++ α ∷ [])
      concluded settles r = record {
        distinct = now_distinct;
        among = now_among;
        images = now_images;
        ceiling = inv.ceiling;
        phase = inl (done r);
        balanced = omega (arith, inv.balanced, now_sizes);
        all_counted = omega (arith, inv.all_counted, length_pushed points α);
      }
        where
          done : Ruled pair k (held_with s k α) settles → Done pair d (conclude s k (held_with s k α) (let_go s k) settles).0
          done (inl z) = let zero_d : d ≡ 0 = omega (arith, at_least k α fits) in record { stage = refl; level = omega arith; enough = rw (eq-eqb d 0 zero_d) (now_single z) }
          done (inr p) =
              let same : k ≡ d = elim (now_decided p.1) [ inl y ↦ y.0 | inr n ↦ absurd (passed_failed _ p.2 n.1) ] in
              record { stage = refl; level = same; enough = rw (ne_eqb d 0 (λ z. omega arith)) p.1 }
      concluded overturns r = record {
        distinct = tt;
        among = λ β m. absurd m;
        images = λ β m. absurd m;
        ceiling = omega (arith, at_least k α fits, higher);
        balanced = omega (arith, inv.balanced, now_sizes);
        all_counted = omega (arith, inv.all_counted, length_pushed points α);
        phase = inr (record {
          stage = refl;
          few = lawful.closing_some;
          positive = λ β m. absurd m;
          caught = λ β m l. absurd (higher (one_degree pair k d β (now_images β (now_caught β m l)) l));
        });
      }
        where
          higher : ¬ (k ≡ d)
          higher e = elim (now_decided r.0) [ inl y ↦ passed_failed _ y.1 r.1 | inr n ↦ n.0 e ]
      concluded stays r = record {
        distinct = now_distinct;
        among = now_among;
        images = now_images;
        ceiling = inv.ceiling;
        balanced = omega (arith, inv.balanced, now_sizes);
        all_counted = omega (arith, inv.all_counted, length_pushed points α);
        phase = inr (record { stage = refl; few = omega (arith, r.1, now_sizes, g.few); positive = λ β m. r.0; caught = now_caught });
      }
      concluded (blocks c) r = absurd (elim (now_decided r.0) [ inl y ↦ passed_blocked _ c y.1 r.1 | inr n ↦ failed_blocked _ c n.1 r.1 ])

    still_gathering : s.stage ≡ gathering → Gathering pair d s points
    still_gathering e = elim inv.phase [ inl f ↦ absurd (gathering_settled s.stage e f.stage) | inr g ↦ g ]

    answered_keeps : s.tally.offered < limit → (c : Class) → Found pair s α c → Invariant pair d (answered pair s α c).0 (points ++ α ∷ [])
    answered_keeps room (voided r) f = absurd (elim inv.phase [ inl e ↦ settled_void s.stage r e.stage f | inr g ↦ gathering_void s.stage r g.stage f ])
    answered_keeps room full f = absurd (omega arith)
    answered_keeps room late f = only_counted _ refl (omega (arith, inv.balanced)) (λ g l. absurd (gathering_settled s.stage g f))
    answered_keeps room foreign f = only_counted _ refl (omega (arith, inv.balanced)) (λ g l. absurd (both_ways (pair.element α) f l.element))
    answered_keeps room repeated f = only_counted _ refl (omega (arith, inv.balanced)) (λ g l. f)
    answered_keeps room vanishing f = only_counted _ refl (omega (arith, inv.balanced)) (λ g l. absurd (image_stands pair d α l f))
    answered_keeps room (high k) f = only_counted _ refl (omega (arith, inv.balanced)) (λ g l. absurd (not_high k f.0 f.1 l))
    answered_keeps room (fitting k) f = concluded (still_gathering f.0) k f.1 f.2 f.3 (verdict_on pair k (held_with s k α)) (ruled pair k (held_with s k α))
    answered_keeps room (stuck c) f = absurd (never_stuck α c f.0 f.1)

    -- an offer to a job that is not full
    pub offer_keeps : s.tally.offered < limit → Invariant pair d (offer pair s α).0 (points ++ α ∷ [])
    offer_keeps room = answered_keeps room (class_of pair s α) (found pair s α)
