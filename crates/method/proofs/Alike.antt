-- Two pairs that answer alike where a job asks show the same over every list of calls.
use Rattle.std.proofs.Common.{◌≡◌, ℕ, suc, ◌≤◌, Bool, true, false, cond, not, eqb, ltb, leb, ◌⊎◌, List, [], ◌∷◌, ◌++◌, length, take, Err, Result, sym, refl, ap, ◌∙◌, subst, ap₂, inl, inr, arith}
use Rattle.std.proofs.lemmas.Bool.{cases_Bool, cases_eq, ltb-false, ne_eqb}
use Rattle.algebra.specs.Lists.{All, Distinct}
use Rattle.rules.specs.declared.answer.Answer.{Answer}
use Rattle.rules.specs.declared.refusal.Refusal.{Refusal}
use Rattle.rules.specs.declared.refusal.Refusal.TheVariants.{Settled}
use Rattle.rules.specs.Job.{Finding, Tested, Pair, limit, gathering, settled, void, State, started, opened}
use Rattle.rules.specs.Offer.{Class, voided, full, late, foreign, repeated, vanishing, high, fitting, stuck, member, by_finding, class_of, kept, let_go, held_with, Verdict, settles, stays, by_test, verdict_on, conclude, answered, offer}
use Rattle.rules.specs.Run.{check, Outcome, outcome, either, draw_on, run, Call, offering, running, Reply, to_offer, to_run, called, play, brought, all_brought, points_offered}
use Rattle.rules.specs.Points.{Among}
use Rattle.rules.specs.Law.{ImageOf, Lawful}
use Rattle.rules.proofs.Points.{Each, each_all, among_pushed, distinct_push}
use Rattle.rules.proofs.Offer.{Found, found}
use Rattle.rules.proofs.Invariant.{Invariant}
use Rattle.rules.proofs.Calls.{calls_keep}

-- the same at every element, and the same found by the test of as many different points as the closing number, of one degree
pub record Alike (one other : Pair) : Type 0 where
  pub element : (α : ℕ) → one.element α ≡ other.element α
  pub at_point : (α : ℕ) → one.element α ≡ true → one.at_point α ≡ other.at_point α
  pub test : (points : List ℕ) (k : ℕ) → length points ≡ one.closing → Distinct points → All (ImageOf one k) points → one.test points ≡ other.test points
  pub closing : one.closing ≡ other.closing
  pub first_ceiling : one.first_ceiling ≡ other.first_ceiling

-- the class of an offer, the verdict and the run, by what the pair gives to them
abbrev class_by : State → ℕ → Bool → Finding → Class
class_by s α element finding =
    let by_held = cond (member α s.held) repeated (by_finding s finding) in
    let by_kind = cond (not element) foreign by_held in
    let no_room = leb limit s.tally.offered in
    elim s.stage [ void r ↦ voided r | settled ↦ cond no_room full late | gathering ↦ cond no_room full by_kind ]

abbrev verdict_by : ℕ → Bool → Tested → Verdict
verdict_by k enough tested = cond (eqb k 0) settles (cond enough (by_test tested) stays)

abbrev run_by : State → List ℕ → Outcome → Outcome
run_by s waiting drawing = elim s.stage [ void r ↦ drawing | settled ↦ outcome s waiting 0 (Err (Settled 0)) | gathering ↦ drawing ]

play_pushed : (pair : Pair) (calls : List Call) (s : State) (c : Call) → (play pair s (calls ++ c ∷ [])).0 ≡ (called pair (play pair s calls).0 c).0
play_pushed pair [] s c = refl
play_pushed pair (x ∷ calls) s c = play_pushed pair calls (called pair s x).0 c

-- The points that a job holds when a fitting point was added.
module _ (pair : Pair) (d : ℕ) (s : State) (points : List ℕ) (inv : Invariant pair d s points) (k α : ℕ) (low : Each (λ β. k ≤ s.level) s.held) where
  kept_images : (b : Bool) → ltb k s.level ≡ b → Each (ImageOf pair k) (cond b [] s.held)
  kept_images true e β m = absurd m
  kept_images false e β m =
      let same : s.level ≡ k = omega (arith, ltb-false _ _ e, low β m) in
      rw (← same) (inv.images β m)

  kept_distinct : (b : Bool) → ¬ Among α s.held → Distinct (cond b [] s.held) × (¬ Among α (cond b [] s.held))
  kept_distinct true new = (tt, λ m. m)
  kept_distinct false new = (inv.distinct, new)

  now_images : ImageOf pair k α → All (ImageOf pair k) (held_with s k α)
  now_images fits = each_all (ImageOf pair k) (held_with s k α) (λ β m. elim (among_pushed β (kept s k) α m) [ inl h ↦ kept_images (ltb k s.level) refl β h | inr e ↦ rw e fits ])

  now_distinct : ¬ Among α s.held → Distinct (held_with s k α)
  now_distinct new = let t = kept_distinct (ltb k s.level) new in distinct_push (kept s k) α t.0 t.1

module _ (one other : Pair) (alike : Alike one other) where
  class_same : (s : State) (α : ℕ) → class_of one s α ≡ class_of other s α
  class_same s α = go (cases_Bool (one.element α))
    where
      go : (one.element α ≡ true) ⊎ (one.element α ≡ false) → class_of one s α ≡ class_of other s α
      go (inl e) = ap₂ (class_by s α) (alike.element α) (alike.at_point α e)
      go (inr e) = ap (λ b. class_by s α b (one.at_point α)) e ∙ sym (ap (λ b. class_by s α b (other.at_point α)) (sym (alike.element α) ∙ e))

  verdict_same : (k : ℕ) (now : List ℕ) → Distinct now → All (ImageOf one k) now → verdict_on one k now ≡ verdict_on other k now
  verdict_same k now distinct all = go (cases_eq (length now) one.closing) ∙ ap (λ n. verdict_by k (eqb (length now) n) (other.test now)) alike.closing
    where
      go : (length now ≡ one.closing) ⊎ (¬ (length now ≡ one.closing)) → verdict_by k (eqb (length now) one.closing) (one.test now) ≡ verdict_by k (eqb (length now) one.closing) (other.test now)
      go (inl e) = ap (verdict_by k (eqb (length now) one.closing)) (alike.test now k e distinct all)
      go (inr n) = let e = ne_eqb (length now) one.closing n in ap (λ b. verdict_by k b (one.test now)) e ∙ sym (ap (λ b. verdict_by k b (other.test now)) e)

  module _ (d : ℕ) (lawful : Lawful one d) where
    -- the job after some calls
    abbrev Reached : State → Type 0
    Reached s = (calls : List Call) × ((play one (opened one) calls).0 ≡ s)

    reached_call : (c : Call) (s : State) → Reached s → Reached (called one s c).0
    reached_call c s (calls, e) = (calls ++ c ∷ [], play_pushed one calls (opened one) c ∙ ap (λ t. (called one t c).0) e)

    answered_same : (s : State) (points : List ℕ) → Invariant one d s points → (α : ℕ) (c : Class) → Found one s α c → answered one s α c ≡ answered other s α c
    answered_same s points inv α (voided r) f = refl
    answered_same s points inv α full f = refl
    answered_same s points inv α late f = refl
    answered_same s points inv α foreign f = refl
    answered_same s points inv α repeated f = refl
    answered_same s points inv α vanishing f = refl
    answered_same s points inv α (high k) f = refl
    answered_same s points inv α (fitting k) f =
        ap (conclude s k (held_with s k α) (let_go s k))
        (verdict_same k (held_with s k α) (now_distinct one d s points inv k α f.3 f.2) (now_images one d s points inv k α f.3 f.1))
    answered_same s points inv α (stuck c) f = refl

    offer_same : (s : State) (α : ℕ) → Reached s → offer one s α ≡ offer other s α
    offer_same s α (calls, e) =
        answered_same s _ (subst (λ t. Invariant one d t (take limit (all_brought one (opened one) calls))) e (calls_keep one d lawful calls)) α (class_of one s α) (found one s α)
        ∙ ap (answered other s α) (class_same s α)

    draw_same : (waiting : List ℕ) (s : State) (drawn n : ℕ) → Reached s → draw_on one s drawn n waiting ≡ draw_on other s drawn n waiting
    draw_same [] s drawn n r = refl
    draw_same (α ∷ waiting) s drawn n r =
        ap (either (check s drawn n) (outcome s (α ∷ waiting) drawn))
        (draw_same waiting (offer one s α).0 (suc drawn) n (reached_call (offering α) s r) ∙ ap (λ (o : State × Result Answer Refusal). draw_on other o.0 (suc drawn) n waiting) (offer_same s α r))

    called_same : (c : Call) (s : State) → Reached s → (called one s c ≡ called other s c) × (brought one s c ≡ brought other s c)
    called_same (offering α) s r = (ap (λ (o : State × Result Answer Refusal). (o.0, to_offer o.1)) (offer_same s α r), refl)
    called_same (running waiting n) s r =
        let e : run one s n waiting ≡ run other s n waiting = ap (run_by s waiting) (draw_same waiting s 0 n r) in
        (ap (λ (o : Outcome). (o.state, to_run o.answer o.left)) e, ap (λ (o : Outcome). take o.answer.drawn waiting) e)

    played_same : (calls : List Call) (s : State) → Reached s → (play one s calls ≡ play other s calls) × (all_brought one s calls ≡ all_brought other s calls)
    played_same [] s r = (refl, refl)
    played_same (c ∷ calls) s r =
        let now = called_same c s r in
        let rest = played_same calls (called one s c).0 (reached_call c s r) in (
          ap (λ (x : State × List Reply). (x.0, (called one s c).1 ∷ x.1)) rest.0 ∙ ap (λ (y : State × Reply). ((play other y.0 calls).0, y.1 ∷ (play other y.0 calls).1)) now.0,
          ap₂ ◌++◌ now.1 (rest.1 ∙ ap (λ (y : State × Reply). all_brought other y.0 calls) now.0),
        )

    opened_same : opened one ≡ opened other
    opened_same = ap (started gathering) alike.first_ceiling

    pub show_the_same : (calls : List Call) → (play one (opened one) calls ≡ play other (opened other) calls) × (points_offered one calls ≡ points_offered other calls)
    show_the_same calls =
        let t = played_same calls (opened one) ([], refl) in
        (t.0 ∙ ap (λ s. play other s calls) opened_same, ap (take limit) (t.1 ∙ ap (λ s. all_brought other s calls) opened_same))
