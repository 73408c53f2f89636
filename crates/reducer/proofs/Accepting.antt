-- An offer of a point that can be held, by what comes of it.
use Rattle.std.proofs.Common.{◌≡◌, ℕ, ◌+◌, ◌-◌, ◌<◌, false, cond, eqb, ltb, List, length, take, set, Ok, Err, Result, sym, refl, ap, ◌∙◌, subst, ap₂, arith, length-set, length-take}
use Rattle.coefficients.specs.Arithmetic.{Arithmetic, Laws, IsField}
use Rattle.rules.specs.declared.answer.Answer.{Answer}
use Rattle.rules.specs.declared.refusal.Refusal.{Refusal}
use Rattle.rules.specs.declared.refusal.Stage.TheVariants as Stage
use Rattle.rules.specs.Job.{image, blocked, Tested, passed, blocked_test, limit, Stage, gathering, settled, void, State}
use Rattle.rules.specs.Offer.{too_high, held_with, let_go, settles, stays, by_test, raised, conclude}
use Rattle.rulebook.specs.Pairs.{pair_of}
use Rattle.rulebook.proofs.Opening.{openable}
use Rattle.tables.specs.declared.faults.DivisionFault.{DivisionFault}
use Rattle.steps.specs.declared.factored.Factored.{Factored}
use Rattle.steps.specs.Look.{ImagesOf}
use Rattle.steps.specs.Prepare.{WorkingsOf}
use Rattle.steps.specs.Faults.{Faulty}
use Rattle.steps.specs.Answer.{ReductionOf, Free}
use Rattle.reducer.specs.declared.standing.Standing.TheVariants as Standing
use Rattle.reducer.specs.declared.job.Job.{Job}
use Rattle.reducer.specs.State.{stage_of, tally_of, state_of}
use Rattle.reducer.specs.Sound.{Holds, Gathers, Sound, element_of, Lacks}
use Rattle.reducer.specs.Promises.{NotFive, Offered}
use Rattle.reducer.specs.Holding.{Fresh, moved}
use Rattle.reducer.proofs.Branches.{offer_fitting, offer_stuck, verdict_constant, verdict_tested, verdict_stays}
use Rattle.reducer.proofs.Found.{faulty_lacks, faulty_field, found_image, found_closing, free_of_x}
use Rattle.reducer.proofs.Offers.{found, found_owed, build, not_blocked, not_blocked_test}
use Rattle.reducer.proofs.Keeping.{kept_some, kept_with, gone_number}
use Rattle.reducer.proofs.Sounds.{holds_kept, sound_gathering, sound_settled, sound_void}

-- the job after a point α is written behind n others
abbrev pub written : Job → (n α : ℕ) → Stage → (ceiling level gone held : ℕ) → State
written j n α stage ceiling level gone held = record { stage = stage; ceiling = ceiling; level = level; held = take held (set j.points n α); tally = raised (tally_of j.counts) 0 0 0 0 0 gone }

module _ {K : Arithmetic} (laws : Laws K) (a b : List ℕ) (j : Job) (α k : ℕ) (d l r : List ℕ) (standing : j.standing ≡ Standing.Gathering) (room : j.counts.offered < limit) (g : Gathers K a b j) (fresh : Fresh K j α) (low : too_high (state_of j) k ≡ false) (images : ImagesOf K a b α k d l r) where
  abbrev s : State
  s = state_of j

  abbrev now : List ℕ
  now = held_with s k α

  field_image : IsField K → (pair_of K a b).at_point α ≡ image k
  field_image only = found_image laws only a b g.opens α k d l r fresh.element images

  -- an image of degree 0
  pub constant_offered : k ≡ 0 → (s' : State) (answer : Result Answer Refusal) → conclude s k now (let_go s k) settles ≡ (s', answer) → NotFive answer → Offered K a b s α s' answer
  unfolding found
  constant_offered z s' answer e five =
      build a b s α s' answer (λ pair. pair.at_point α ≡ image k) (λ pair el f. offer_fitting pair s α (ap stage_of standing) room (el α ∙ fresh.element) fresh.apart k f low settles (verdict_constant pair s α k now z) ∙ e)
      (found K (image k) passed 0) (found_owed K (image k) passed 0 (not_blocked K k) (not_blocked_test K)) refl field_image (λ only. five)

  -- as many points as the closing number
  pub tested_offered : (t : Tested) (n : ℕ) → ¬ (k ≡ 0) → length now ≡ n → ((c : ℕ) → t ≡ blocked_test c → Lacks K c) → (IsField K → ((pair_of K a b).closing ≡ n) × ((pair_of K a b).test now ≡ t)) → (s' : State) (answer : Result Answer Refusal) → conclude s k now (let_go s k) (by_test t) ≡ (s', answer) → (IsField K → NotFive answer) → Offered K a b s α s' answer
  unfolding found
  tested_offered t n some number lacks field s' answer e five =
      build a b s α s' answer (λ pair. (pair.at_point α ≡ image k) × (pair.closing ≡ n) × (pair.test now ≡ t)) (λ pair el f. offer_fitting pair s α (ap stage_of standing) room (el α ∙ fresh.element) fresh.apart k f.0 low (by_test t) (verdict_tested pair s α k now t some (number ∙ sym f.1) f.2) ∙ e)
      (found K (image k) t n) (found_owed K (image k) t n (not_blocked K k) lacks) (refl, refl, refl) (λ only. (field_image only, (field only).0, (field only).1)) five

  -- fewer points
  pub stays_offered : (n : ℕ) → ¬ (k ≡ 0) → ¬ (length now ≡ n) → (IsField K → (pair_of K a b).closing ≡ n) → (s' : State) (answer : Result Answer Refusal) → conclude s k now (let_go s k) stays ≡ (s', answer) → NotFive answer → Offered K a b s α s' answer
  unfolding found
  stays_offered n some number field s' answer e five =
      build a b s α s' answer (λ pair. (pair.at_point α ≡ image k) × (pair.closing ≡ n)) (λ pair el f. offer_fitting pair s α (ap stage_of standing) room (el α ∙ fresh.element) fresh.apart k f.0 low stays (verdict_stays pair s α k now some (λ q. number (q ∙ f.1))) ∙ e)
      (found K (image k) passed n) (found_owed K (image k) passed n (not_blocked K k) (not_blocked_test K)) (refl, refl) (λ only. (field_image only, field only)) (λ only. five)

  -- a fault on the way makes the job void
  pub void_offered : (j' : Job) (x : DivisionFault) (q : Refusal) → Faulty K x → q ≡ Refusal.NoField (element_of x) Stage.Offer → state_of j' ≡ moved j (void q) j.ceiling j.level 0 j.counts.held → j'.standing ≡ Standing.Void q → Offered K a b s α (state_of j') (Err q) × Sound K a b j'
  unfolding found
  void_offered j' x q faulty qe se st =
      let c : ℕ = element_of x in (
        build a b s α (state_of j') (Err q) (λ pair. pair.at_point α ≡ blocked c)
            (λ pair el f. offer_stuck pair s α (ap stage_of standing) room (el α ∙ fresh.element) fresh.apart c f ∙ ap (λ (y : Refusal). (moved j (void y) j.ceiling j.level 0 j.counts.held, Err y)) (sym qe) ∙ ap (λ (t : State). (t, Err q)) (sym se))
            (found K (blocked c) passed 0) (found_owed K (blocked c) passed 0 (λ y f. let same : c ≡ y = cc in subst (Lacks K) same (faulty_lacks K x faulty)) (not_blocked_test K)) refl (λ only. absurd (faulty_field K x faulty only)) (λ only. absurd (faulty_field K x faulty only)),
        sound_void K a b j' q st (λ only. absurd (faulty_field K x faulty only)),
      )

  module _ (long : length j.points ≡ 31) (few : j.counts.held < 31) (n : ℕ) (n_is : n ≡ cond (ltb k j.level) 0 j.counts.held) where
    with : take (n + 1) (set j.points n α) ≡ now
    with = kept_with j k n n_is few α long

    gone : j.counts.held - n ≡ let_go s k
    gone = gone_number j k n n_is few long

    -- the job is settled by an image of degree 0
    pub constant_settled : k ≡ 0 → (j' : Job) (answer : Answer) (reduction : Factored 256) → Free K j.workings (Ok reduction) → state_of j' ≡ written j n α settled j.ceiling k (j.counts.held - n) (n + 1) → j'.standing ≡ Standing.Settled → j'.reduction ≡ reduction → answer ≡ Answer.Settled k (j.counts.held - n) →
        Offered K a b s α (state_of j') (Ok answer) × Sound K a b j'
    constant_settled z j' answer reduction free se st re ae =
        let can = openable laws a b g.opens in (
          constant_offered z (state_of j') (Ok answer) (ap₂ (λ x y. conclude s k x y settles) (sym with) (sym gone) ∙ ap₂ (λ (x : State) (y : Answer). (x, Ok y)) (sym se) (sym ae)) tt,
          sound_settled K a b j' st (record { opens = g.opens; reduction = subst (ReductionOf K a b) (sym re) (free a b can.A_inside can.B_inside can.A_long can.B_long g.workings (free_of_x a b α k d l r z images)) }),
        )

    -- a fault in reading off the answer
    pub constant_void : k ≡ 0 → (j' : Job) (x : DivisionFault) (q : Refusal) → Free K j.workings (Err x) → q ≡ Refusal.NoField (element_of x) Stage.Offer → state_of j' ≡ moved j (void q) j.ceiling j.level 0 j.counts.held → j'.standing ≡ Standing.Void q → Offered K a b s α (state_of j') (Err q) × Sound K a b j'
    constant_void z j' x q free qe se st =
        let can = openable laws a b g.opens in
        void_offered j' x q (free a b can.A_inside can.B_inside can.A_long can.B_long g.workings (free_of_x a b α k d l r z images)) qe se st

    -- the point is held
    pub stays_held : ¬ (k ≡ 0) → ¬ (n + 1 ≡ j.workings.closing) → (images' : Factored 496) → Holds K a b k (n + 1) (set j.points n α) images' → (j' : Job) (answer : Answer) →
        state_of j' ≡ written j n α gathering j.ceiling k (j.counts.held - n) (n + 1) → j'.standing ≡ Standing.Gathering → answer ≡ cond (eqb (j.counts.held - n) 0) (Answer.Held k (j.counts.held - n)) (Answer.Lowered k (j.counts.held - n)) →
        j'.workings ≡ j.workings → j'.level ≡ k → j'.counts.held ≡ n + 1 → j'.points ≡ set j.points n α → j'.images ≡ images' → Offered K a b s α (state_of j') (Ok answer) × Sound K a b j'
    stays_held some fewer images' holds j' answer se st ae we le he pe ie = (
      stays_offered j.workings.closing some (λ q. fewer (sym number ∙ ap length with ∙ q)) (λ only. found_closing laws only a b g.opens j.workings g.workings) (state_of j') (Ok answer)
          (ap₂ (λ x y. conclude s k x y stays) (sym with) (sym gone) ∙ ap₂ (λ (x : State) (y : Answer). (x, Ok y)) (sym se) (sym ae)) tt,
      sound_gathering K a b j' st (record { opens = g.opens; workings = subst (WorkingsOf K a b) (sym we) g.workings; holds = holds_kept (sym le) (sym he) (sym pe) (sym ie) holds }),
    )
      where
        number : length (take (n + 1) (set j.points n α)) ≡ n + 1
        number = let le = kept_some j k n n_is few in simp (length-take, length-set) (omega arith)
