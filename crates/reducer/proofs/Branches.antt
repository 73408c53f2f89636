-- The rule of an offer, one way at a time, for any answers of a pair.
use Rattle.std.proofs.Common.{◌≡◌, ℕ, ◌<◌, ◌≤◌, true, false, cond, not, leb, List, length, Err, refl, ap, ◌∙◌, ap₂, eq-eqb, ne_eqb, le-leb}
use borrow.Author.Tests.{lt-leb}
use Rattle.rules.specs.declared.refusal.Refusal.{Refusal}
use Rattle.rules.specs.Job.{Finding, zero_lead, image, blocked, Tested, Pair, limit, Stage, gathering, settled, void, State, counts}
use Rattle.rules.specs.Offer.{Class, voided, full, late, foreign, repeated, vanishing, high, fitting, stuck, member, too_high, by_finding, class_of, held_with, let_go, Verdict, settles, stays, by_test, verdict_on, raised, counting, made_void, conclude, answered, offer}

module _ (pair : Pair) (s : State) (α : ℕ) where
  -- what is found decides what is answered
  by_class : (c : Class) → class_of pair s α ≡ c → offer pair s α ≡ answered pair s α c
  by_class c e = ap (answered pair s α) e

  pub offer_void : (r : Refusal) → s.stage ≡ void r → offer pair s α ≡ (s, Err r)
  offer_void r e = by_class (voided r) (rw e refl)

  pub offer_full : (s.stage ≡ gathering → limit ≤ s.tally.offered) → limit ≤ s.tally.offered → ((r : Refusal) → ¬ (s.stage ≡ void r)) → offer pair s α ≡ (s, Err (Refusal.Full (counts s)))
  offer_full h le n = by_class full (go s.stage n)
    where
      go : (t : Stage) → ((r : Refusal) → ¬ (t ≡ void r)) → elim t [ void r ↦ voided r | settled ↦ cond (leb limit s.tally.offered) full late | gathering ↦ cond (leb limit s.tally.offered) full (cond (not (pair.element α)) foreign (cond (member α s.held) repeated (by_finding s (pair.at_point α)))) ] ≡ full
      go gathering n = rw (le-leb limit s.tally.offered le) refl
      go settled n = rw (le-leb limit s.tally.offered le) refl
      go (void r) n = absurd (n r refl)

  pub offer_late : s.stage ≡ settled → s.tally.offered < limit → offer pair s α ≡ (counting s (raised s.tally 0 0 0 0 1 0), Err (Refusal.Settled α))
  offer_late e lt = by_class late (rw (e, lt-leb limit s.tally.offered lt) refl)

  module _ (gathers : s.stage ≡ gathering) (room : s.tally.offered < limit) where
    class_here : class_of pair s α ≡ cond (not (pair.element α)) foreign (cond (member α s.held) repeated (by_finding s (pair.at_point α)))
    class_here = rw (gathers, lt-leb limit s.tally.offered room) refl

    pub offer_foreign : pair.element α ≡ false → offer pair s α ≡ (counting s (raised s.tally 1 0 0 0 0 0), Err (Refusal.ForeignPoint α))
    offer_foreign e = by_class foreign (class_here ∙ ap (λ x. cond (not x) foreign (cond (member α s.held) repeated (by_finding s (pair.at_point α)))) e)

    module _ (element : pair.element α ≡ true) where
      class_element : class_of pair s α ≡ cond (member α s.held) repeated (by_finding s (pair.at_point α))
      class_element = class_here ∙ ap (λ x. cond (not x) foreign (cond (member α s.held) repeated (by_finding s (pair.at_point α)))) element

      pub offer_repeated : member α s.held ≡ true → offer pair s α ≡ (counting s (raised s.tally 0 1 0 0 0 0), Err (Refusal.Repeated α))
      offer_repeated e = by_class repeated (class_element ∙ ap (λ x. cond x repeated (by_finding s (pair.at_point α))) e)

      module _ (fresh : member α s.held ≡ false) where
        class_fresh : (f : Finding) → pair.at_point α ≡ f → class_of pair s α ≡ by_finding s f
        class_fresh f e = class_element ∙ ap₂ (λ x y. cond x repeated (by_finding s y)) fresh e

        pub offer_vanishing : pair.at_point α ≡ zero_lead → offer pair s α ≡ (counting s (raised s.tally 0 0 1 0 0 0), Err (Refusal.Vanishing α))
        offer_vanishing e = by_class vanishing (class_fresh zero_lead e)

        pub offer_high : (k : ℕ) → pair.at_point α ≡ image k → too_high s k ≡ true → offer pair s α ≡ (counting s (raised s.tally 0 0 0 1 0 0), Err (Refusal.High α k))
        offer_high k e h = by_class (high k) (class_fresh (image k) e ∙ ap (λ x. cond x (high k) (fitting k)) h)

        pub offer_stuck : (c : ℕ) → pair.at_point α ≡ blocked c → offer pair s α ≡ made_void s c
        offer_stuck c e = by_class (stuck c) (class_fresh (blocked c) e)

        -- an image that fits: the held points of a higher degree are let go, and the verdict decides
        pub offer_fitting : (k : ℕ) → pair.at_point α ≡ image k → too_high s k ≡ false → (v : Verdict) → verdict_on pair k (held_with s k α) ≡ v → offer pair s α ≡ conclude s k (held_with s k α) (let_go s k) v
        offer_fitting k e h v ve = by_class (fitting k) (class_fresh (image k) e ∙ ap (λ x. cond x (high k) (fitting k)) h) ∙ ap (conclude s k (held_with s k α) (let_go s k)) ve

  pub verdict_constant : (k : ℕ) (now : List ℕ) → k ≡ 0 → verdict_on pair k now ≡ settles
  verdict_constant k now e = rw (eq-eqb k 0 e) refl

  pub verdict_tested : (k : ℕ) (now : List ℕ) (t : Tested) → ¬ (k ≡ 0) → length now ≡ pair.closing → pair.test now ≡ t → verdict_on pair k now ≡ by_test t
  verdict_tested k now t n e te = rw (ne_eqb k 0 n, eq-eqb (length now) pair.closing e, te) refl

  pub verdict_stays : (k : ℕ) (now : List ℕ) → ¬ (k ≡ 0) → ¬ (length now ≡ pair.closing) → verdict_on pair k now ≡ stays
  verdict_stays k now n e = rw (ne_eqb k 0 n, ne_eqb (length now) pair.closing e) refl
