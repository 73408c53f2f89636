-- A run is single offers of the points that it draws, and it ends for the one cause that its answer names.
use Rattle.std.proofs.Common.{◌≡◌, ℕ, zero, suc, ◌+◌, ◌<◌, ◌≤◌, cond, eqb, leb, ◌⊎◌, List, [], ◌∷◌, length, take, drop, Ok, Err, Result, sym, refl, ◌∙◌, inl, inr, arith}
use Rattle.std.proofs.lemmas.Bool.{cond_both, leb-true, leb-false, eqb-true, eqb-false, le-leb, lt-leb, eq-eqb, ne_eqb}
use Rattle.rules.specs.declared.refusal.Refusal.{Refusal}
use Rattle.rules.specs.declared.refusal.Refusal.TheVariants.{Settled, Full, Spent, Empty}
use Rattle.rules.specs.Job.{Pair, limit, gathering, settled, void, State, counts}
use Rattle.rules.specs.Offer.{offer}
use Rattle.rules.specs.Run.{Check, stop, go, check, Outcome, outcome, either, draw_on, run}
use Rattle.rules.specs.Law.{after, Ready, Because, settled_before, settled_by_it, full_job, spent_draws, empty_source, RunLaw}
use Rattle.rules.proofs.Job.{by_stage, gathering_void, settled_void}

-- What has come of a run, begun with the job `before`, that had drawn some points: it drew some more.
record Drew (pair : Pair) (before : State) (n : ℕ) (s : State) (drawn : ℕ) (waiting : List ℕ) (r : Outcome) : Type 0 where
  more : ℕ
  number : r.answer.drawn ≡ drawn + more
  within : (drawn + more ≤ n) × (more ≤ length waiting)
  state : r.state ≡ after pair s (take more waiting)
  left : r.left ≡ drop more waiting
  no_further : (i : ℕ) → i < more → Ready (after pair s (take i waiting))
  because : Because before n r r.answer.ending

-- the one ending that has a cause
the_ending : State → ℕ → Outcome → Result (Unit {0}) Refusal
the_ending s n r =
    let c = counts r.state in
    let by_draws = cond (eqb r.answer.drawn n) (Err (Spent c)) (Err (Empty c)) in
    let by_room = cond (leb limit r.state.tally.offered) (Err (Full c)) by_draws in
    let by_end : Result (Unit {0}) Refusal = elim r.state.stage [ void x ↦ Err x | settled ↦ Ok tt | gathering ↦ by_room ] in
    elim s.stage [ void x ↦ Err x | settled ↦ Err (Settled 0) | gathering ↦ by_end ]

one_cause : (s : State) (n : ℕ) (r : Outcome) (e : Result (Unit {0}) Refusal) → Because s n r e → e ≡ the_ending s n r
unfolding the_ending
one_cause s n r e (settled_before b) = rw b
one_cause s n r e (settled_by_it b g) = rw (b, g)
one_cause s n r e (full_job b g f) = rw (b, g, le-leb _ _ f)
one_cause s n r e (spent_draws b g f) = rw (b, g.0, lt-leb _ _ g.1, eq-eqb _ _ f)
one_cause s n r e (empty_source b g f l) = rw (b, g.0, lt-leb _ _ g.1, ne_eqb r.answer.drawn n (λ e. omega arith))

either_holds : (P : Outcome → Type 0) (C : Check → Type 0) (c : Check) (stopped : Result (Unit {0}) Refusal → Outcome) (more : Outcome) →
    C c → ((e : Result (Unit {0}) Refusal) → C (stop e) → P (stopped e)) → (C go → P more) → P (either c stopped more)
either_holds P C (stop e) f more h k l = k e h
either_holds P C go f more h k l = l h

-- Jobs that never become void: `Good` is kept by every offer, and a good job gathers or is settled.
module _ (pair : Pair) (Good : State → Type 0) (keeps : (s : State) (α : ℕ) → Good s → Good (offer pair s α).0) (stands : (s : State) → Good s → (s.stage ≡ gathering) ⊎ (s.stage ≡ settled)) where
  never_void : (s : State) → Good s → (r : Refusal) → ¬ (s.stage ≡ void r)
  never_void s good r e = elim (stands s good) [ inl g ↦ gathering_void s.stage r g e | inr f ↦ settled_void s.stage r f e ]

  -- A run of n draws that began with the job `before`, which gathered.
  module _ (before : State) (began : before.stage ≡ gathering) (n : ℕ) where
    -- what is known by a check before a draw
    abbrev Checked : State → ℕ → List ℕ → Check → Type 0
    Checked s drawn waiting (stop e) = Because before n (outcome s waiting drawn e) e
    Checked s drawn waiting go = Ready s × (drawn < n)

    checked : (s : State) (drawn : ℕ) (waiting : List ℕ) → Good s → drawn ≤ n → Checked s drawn waiting (check s drawn n)
    checked s drawn waiting good h =
        let C = Checked s drawn waiting in
        by_stage C s.stage _ _ _ (λ r e. absurd (never_void s good r e)) (λ e. settled_by_it began e) λ going.
        cond_both (leb limit s.tally.offered) _ _ C (λ e. full_job began going (leb-true _ _ e)) λ room.
        let ready : Ready s = (going, leb-false _ _ room) in
        cond_both (eqb drawn n) _ _ C (λ e. spent_draws began ready (eqb-true _ _ e)) (λ e. (ready, omega (arith, eqb-false drawn n e)))

    stopped : (s : State) (drawn : ℕ) (waiting : List ℕ) (e : Result (Unit {0}) Refusal) → drawn ≤ n → Because before n (outcome s waiting drawn e) e →
        Drew pair before n s drawn waiting (outcome s waiting drawn e)
    stopped s drawn waiting e h b = record { more = 0; number = omega arith; within = omega arith; state = refl; left = refl; no_further = λ i l. absurd (omega arith); because = b }

    one_more : (s : State) (drawn : ℕ) (α : ℕ) (waiting : List ℕ) (r : Outcome) → Ready s → Drew pair before n (offer pair s α).0 (suc drawn) waiting r → Drew pair before n s drawn (α ∷ waiting) r
    one_more s drawn α waiting r ready h = record {
      more = suc h.more;
      number = omega (arith, h.number);
      within = omega (arith, h.within);
      state = h.state;
      left = h.left;
      no_further = earlier;
      because = h.because;
    }
      where
        earlier : (i : ℕ) → i < suc h.more → Ready (after pair s (take i (α ∷ waiting)))
        earlier zero l = ready
        earlier (suc i) l = h.no_further i (omega arith)

    drew : (s : State) (drawn : ℕ) (waiting : List ℕ) → Good s → drawn ≤ n → Drew pair before n s drawn waiting (draw_on pair s drawn n waiting)
    drew s drawn [] good h =
        either_holds (Drew pair before n s drawn []) (Checked s drawn []) (check s drawn n) _ _ (checked s drawn [] good h)
        (λ e b. stopped s drawn [] e h b) (λ b. stopped s drawn [] (Err (Empty (counts s))) h (empty_source began b.0 b.1 refl))
    drew s drawn (α ∷ waiting) good h =
        let rest = drew (offer pair s α).0 (suc drawn) waiting (keeps s α good) in
        either_holds (Drew pair before n s drawn (α ∷ waiting)) (Checked s drawn (α ∷ waiting)) (check s drawn n) _ _ (checked s drawn (α ∷ waiting) good h)
        (λ e b. stopped s drawn (α ∷ waiting) e h b) (λ b. one_more s drawn α waiting _ b.0 (rest b.1))

  pub run_law : (s : State) → Good s → (n : ℕ) (waiting : List ℕ) → RunLaw pair s n waiting (run pair s n waiting)
  run_law s good n waiting =
      by_stage (RunLaw pair s n waiting) s.stage _ _ _ (λ r e. absurd (never_void s good r e))
      (λ e. from_drew _ (record { more = 0; number = refl; within = omega arith; state = refl; left = refl; no_further = λ i l. absurd (omega arith); because = settled_before e }))
      (λ e. from_drew _ (drew s e n s 0 waiting good (omega arith)))
    where
      from_drew : (r : Outcome) → Drew pair s n s 0 waiting r → RunLaw pair s n waiting r
      from_drew r h =
          let number : r.answer.drawn ≡ h.more = omega (arith, h.number) in
          record {
            within = omega (arith, h.within);
            state = rw number h.state;
            left = rw number h.left;
            no_further = rw number h.no_further;
            because = h.because;
            no_other = λ e b. one_cause s n r e b ∙ sym (one_cause s n r r.answer.ending h.because);
          }
