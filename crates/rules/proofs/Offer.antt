-- What is known of an offer by its class, and of the held points by the verdict on them.
use Rattle.std.proofs.Common.{◌≡◌, ℕ, ◌<◌, ◌≤◌, true, false, not, ◌&&◌, eqb, ltb, leb, ◌⊎◌, List, [], ◌∷◌, length, refl, inl, inr, arith}
use Rattle.std.proofs.lemmas.Bool.{cond_both, leb-true, ltb-true, ltb-false, eqb-true, eqb-false, or_cases, or_parts, and_parts, and_cases, not-true, not-false, true≢false, false≢true}
use Rattle.rules.specs.Job.{Finding, zero_lead, image, blocked, Tested, passed, failed, blocked_test, Pair, limit, gathering, settled, void, State}
use Rattle.rules.specs.Offer.{Class, voided, full, late, foreign, repeated, vanishing, high, fitting, stuck, member, any, too_high, by_finding, class_of, Verdict, settles, overturns, stays, blocks, by_test, verdict_on}
use Rattle.rules.specs.Points.{Among}
use Rattle.rules.specs.Law.{ImageOf}
use Rattle.rules.proofs.Job.{by_stage}
use Rattle.rules.proofs.Points.{Each, member_true, member_false}

-- too high: at the ceiling or above it, or above the degree of a held point
abbrev pub Above : State → ℕ → Type 0
Above s k = (s.ceiling ≤ k) ⊎ ((β : ℕ) × Among β s.held × (s.level < k))

-- what is known of an offer by its class
abbrev pub Found : Pair → State → ℕ → Class → Type 0
Found pair s α (voided r) = s.stage ≡ void r
Found pair s α full = limit ≤ s.tally.offered
Found pair s α late = s.stage ≡ settled
Found pair s α foreign = pair.element α ≡ false
Found pair s α repeated = Among α s.held
Found pair s α vanishing = pair.at_point α ≡ zero_lead
Found pair s α (high k) = (pair.at_point α ≡ image k) × Above s k
Found pair s α (fitting k) = (s.stage ≡ gathering) × ImageOf pair k α × (¬ Among α s.held) × Each (λ β. k ≤ s.level) s.held
Found pair s α (stuck c) = (pair.element α ≡ true) × (pair.at_point α ≡ blocked c)

-- what is known of the held points `now`, of degree k, by the verdict on them
abbrev pub Ruled : Pair → ℕ → List ℕ → Verdict → Type 0
Ruled pair k now settles = (k ≡ 0) ⊎ ((0 < k) × (length now ≡ pair.closing) × (pair.test now ≡ passed))
Ruled pair k now overturns = (length now ≡ pair.closing) × (pair.test now ≡ failed)
Ruled pair k now stays = (0 < k) × (¬ (length now ≡ pair.closing))
Ruled pair k now (blocks c) = (length now ≡ pair.closing) × (pair.test now ≡ blocked_test c)

any_some : (xs : List ℕ) → any xs ≡ true → (x : ℕ) × Among x xs
any_some [] e = absurd (false≢true e)
any_some (x ∷ xs) e = (x, inl refl)

any_none : (xs : List ℕ) → any xs ≡ false → (x : ℕ) → ¬ Among x xs
any_none [] e x m = m
any_none (y ∷ ys) e x m = true≢false e

module _ (s : State) (k : ℕ) where
  above : too_high s k ≡ true → Above s k
  above e = elim (or_cases (leb s.ceiling k) (any s.held && ltb s.level k) e) [
    | inl c ↦ inl (leb-true _ _ c)
    | inr h ↦
        let both = and_parts (any s.held) (ltb s.level k) h in
        let one = any_some s.held both.0 in
        inr (one.0, one.1, ltb-true _ _ both.1)
  ]

  not_above : too_high s k ≡ false → Each (λ β. k ≤ s.level) s.held
  not_above e β m =
      let neither = or_parts (leb s.ceiling k) (any s.held && ltb s.level k) e in
      elim (and_cases (any s.held) (ltb s.level k) neither.1) [ inl none ↦ absurd (any_none s.held none β m) | inr low ↦ ltb-false _ _ low ]

module _ (pair : Pair) (s : State) (α : ℕ) where
  -- a new element, while the job gathers
  found_there : s.stage ≡ gathering → pair.element α ≡ true → ¬ Among α s.held → (f : Finding) → pair.at_point α ≡ f → Found pair s α (by_finding s f)
  found_there g element new zero_lead e = e
  found_there g element new (image k) e =
      cond_both (too_high s k) (high k) (fitting k) (Found pair s α) (λ t. (e, above s k t)) (λ t. (g, record { element = element; found = e }, new, not_above s k t))
  found_there g element new (blocked c) e = (element, e)

  pub found : Found pair s α (class_of pair s α)
  found =
      let F = Found pair s α in
      let no_room = leb limit s.tally.offered in
      by_stage F s.stage _ _ _ (λ r e. e) (λ e. cond_both no_room _ _ F (λ t. leb-true _ _ t) (λ t. e)) λ e.
      cond_both no_room _ _ F (λ t. leb-true _ _ t) λ room.
      cond_both (not (pair.element α)) _ _ F (λ t. not-true _ t) λ element.
      cond_both (member α s.held) _ _ F (λ t. member_true α s.held t) λ new.
      found_there e (not-false _ element) (member_false α s.held new) (pair.at_point α) refl

module _ (pair : Pair) (k : ℕ) (now : List ℕ) where
  by_tested : 0 < k → length now ≡ pair.closing → (t : Tested) → pair.test now ≡ t → Ruled pair k now (by_test t)
  by_tested some size passed e = inr (some, size, e)
  by_tested some size failed e = (size, e)
  by_tested some size (blocked_test c) e = (size, e)

  pub ruled : Ruled pair k now (verdict_on pair k now)
  ruled =
      cond_both (eqb k 0) _ _ (Ruled pair k now) (λ e. inl (eqb-true k 0 e)) λ some.
      let positive : 0 < k = omega (arith, eqb-false k 0 some) in
      cond_both (eqb (length now) pair.closing) _ _ (Ruled pair k now) (λ e. by_tested positive (eqb-true _ _ e) (pair.test now) refl) (λ e. (positive, eqb-false _ _ e))
