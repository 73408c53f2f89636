-- An offer, way by way: what was found makes the rule's answer and job, over a field and over any kind.
use Rattle.std.proofs.Common.{◌≡◌, ℕ, ◌<◌, ◌≤◌, true, false, List, length, take, Err, Result, sym, refl, ap, ◌∙◌, subst, arith, length-take}
use Rattle.coefficients.specs.Arithmetic.{Arithmetic, Laws, IsField}
use Rattle.rules.specs.declared.answer.Answer.{Answer}
use Rattle.rules.specs.declared.counts.Counts.{Counts}
use Rattle.rules.specs.declared.refusal.Refusal.{Refusal}
use Rattle.rules.specs.declared.refusal.Stage.TheVariants as Stage
use Rattle.rules.specs.Job.{Finding, zero_lead, image, blocked, Tested, passed, blocked_test, Pair, limit, void, State, counts}
use Rattle.rules.specs.Offer.{member, counting, offer}
use Rattle.tables.specs.declared.faults.DivisionFault.{DivisionFault}
use Rattle.rulebook.specs.Pairs.{pair_of}
use Rattle.rulebook.proofs.Right.{pair_element}
use Rattle.reducer.specs.declared.standing.Standing.{Standing}
use Rattle.reducer.specs.declared.job.Job.{Job}
use Rattle.reducer.specs.declared.counting.Tallied.TheVariants as Tallied
use Rattle.reducer.specs.State.{stage_of, tallied, state_of}
use Rattle.reducer.specs.Sound.{Sound, element_of, Lacks}
use Rattle.reducer.specs.Promises.{Owed, NotFive, Offered}
use Rattle.reducer.specs.Holding.{Classed, Kept, moved}
use Rattle.reducer.specs.declared.offering.Class.TheVariants as Class
use Rattle.reducer.proofs.Branches.{offer_void, offer_full, offer_late, offer_foreign, offer_repeated, offer_vanishing, offer_high, offer_stuck}
use Rattle.reducer.proofs.Found.{faulty_lacks, faulty_field, prepared, found_vanishing, found_image}
use Rattle.reducer.proofs.Sounds.{gathering_sound, void_sound, sound_kept, sound_void}

-- answers that go by what was found
unfoldable pub found : Arithmetic → Finding → Tested → ℕ → Pair
found K f t n = record { element = K.element; at_point = λ α. f; test = λ points. t; closing = n; first_ceiling = 0 }

pub found_owed : (K : Arithmetic) (f : Finding) (t : Tested) (n : ℕ) → ((c : ℕ) → f ≡ blocked c → Lacks K c) → ((c : ℕ) → t ≡ blocked_test c → Lacks K c) → Owed K (found K f t n)
unfolding found
found_owed K f t n at test = record { element = λ m. refl; at_point = λ α c e. at c e; test = λ points c e. test c e }

-- an offer that goes by some facts of the pair
pub build : {K : Arithmetic} (a b : List ℕ) (s : State) (α : ℕ) (s' : State) (r : Result Answer Refusal) (Facts : Pair → Type 0) → ((pair : Pair) → ((n : ℕ) → pair.element n ≡ K.element n) → Facts pair → offer pair s α ≡ (s', r)) →
    (some : Pair) → Owed K some → Facts some → (IsField K → Facts (pair_of K a b)) → (IsField K → NotFive r) → Offered K a b s α s' r
build {K = K} a b s α s' r Facts rule some owed facts field five = record {
  over_field = λ only. rule (pair_of K a b) (pair_element K a b) (field only);
  never_five = five;
  over_kind = (some, owed, rule some owed.element facts);
}

pub not_blocked : (K : Arithmetic) (k c : ℕ) → image k ≡ blocked c → Lacks K c
not_blocked K k c e = let z : ◌≡◌ {A = ℕ} 0 1 = cc in absurd (omega arith)

not_blocked_zero : (K : Arithmetic) (c : ℕ) → zero_lead ≡ blocked c → Lacks K c
not_blocked_zero K c e = let z : ◌≡◌ {A = ℕ} 0 1 = cc in absurd (omega arith)

pub not_blocked_test : (K : Arithmetic) (c : ℕ) → passed ≡ blocked_test c → Lacks K c
not_blocked_test K c e = let z : ◌≡◌ {A = ℕ} 0 1 = cc in absurd (omega arith)

-- where nothing is looked for at the point
pub quiet : (K : Arithmetic) → Owed K (found K zero_lead passed 0)
quiet K = found_owed K zero_lead passed 0 (not_blocked_zero K) (not_blocked_test K)

-- the counts of a job, as the rules see them
pub counts_of : (j : Job) → j.counts.held ≤ length j.points → counts (state_of j) ≡ j.counts
counts_of j le =
    let e : length (take j.counts.held j.points) ≡ j.counts.held = simp length-take (omega arith) in
    let c = j.counts in
    let with : ℕ → Counts = λ h. record { offered = c.offered; foreign = c.foreign; repeated = c.repeated; vanishing = c.vanishing; high = c.high; late = c.late; dropped = c.dropped; held = h } in
    ap with e

module _ {K : Arithmetic} (laws : Laws K) (a b : List ℕ) (j : Job) (α : ℕ) (sound : Sound K a b j) where
  abbrev s : State
  s = state_of j

  pub void_offered : (r : Refusal) → j.standing ≡ Standing.Void r → Offered K a b s α s (Err r) × Sound K a b j
  void_offered r e = (build a b s α s (Err r) (λ pair. Unit {0}) (λ pair el f. offer_void pair s α r (ap stage_of e)) (found K zero_lead passed 0) (quiet K) tt (λ only. tt) (void_sound K a b j r e sound), sound)

  pub full_offered : ¬ ((r : Refusal) × (j.standing ≡ Standing.Void r)) → limit ≤ j.counts.offered → (c : Counts) → counts s ≡ c → Offered K a b s α s (Err (Refusal.Full c)) × Sound K a b j
  full_offered n le c e =
      (build a b s α s (Err (Refusal.Full c)) (λ pair. Unit {0}) (λ pair el f. offer_full pair s α (λ _. le) le (λ r v. n (r, never r j.standing v)) ∙ ap (λ x. (s, Err (Refusal.Full x))) e) (found K zero_lead passed 0) (quiet K) tt (λ only. tt) (λ only five. absurd (omega arith)), sound)
    where
      never : (r : Refusal) (st : Standing) → stage_of st ≡ void r → st ≡ Standing.Void r
      never r Standing.Gathering v = let z : ◌≡◌ {A = ℕ} 0 1 = cc in absurd (omega arith)
      never r Standing.Settled v = let z : ◌≡◌ {A = ℕ} 0 1 = cc in absurd (omega arith)
      never r (Standing.Void q) v = let z : q ≡ r = cc in ap Standing.Void z

  -- an offer that only counts
  module _ (j' : Job) (kept : Kept j j') where
    counted : (s' : State) (r : Result Answer Refusal) → state_of j' ≡ s' → Offered K a b s α s' r → Offered K a b s α (state_of j') r × Sound K a b j'
    counted s' r e o = (subst (λ (x : State). Offered K a b s α x r) (sym e) o, sound_kept K a b j j' kept sound)

    pub late_offered : j.standing ≡ Standing.Settled → j.counts.offered < limit → state_of j' ≡ counting s (tallied Tallied.Late s.tally) → Offered K a b s α (state_of j') (Err (Refusal.Settled α)) × Sound K a b j'
    late_offered e lt se = counted _ _ se (build a b s α _ _ (λ pair. Unit {0}) (λ pair el f. offer_late pair s α (ap stage_of e) lt) (found K zero_lead passed 0) (quiet K) tt (λ only. tt) (λ only five. absurd (omega arith)))

    module _ (e : j.standing ≡ Standing.Gathering) (lt : j.counts.offered < limit) where
      pub foreign_offered : K.element α ≡ false → state_of j' ≡ counting s (tallied Tallied.Foreign s.tally) → Offered K a b s α (state_of j') (Err (Refusal.ForeignPoint α)) × Sound K a b j'
      foreign_offered n se = counted _ _ se (build a b s α _ _ (λ pair. Unit {0}) (λ pair el f. offer_foreign pair s α (ap stage_of e) lt (el α ∙ n)) (found K zero_lead passed 0) (quiet K) tt (λ only. tt) (λ only five. absurd (omega arith)))

      pub repeated_offered : (K.element α ≡ true) × (member α s.held ≡ true) → state_of j' ≡ counting s (tallied Tallied.Repeated s.tally) → Offered K a b s α (state_of j') (Err (Refusal.Repeated α)) × Sound K a b j'
      repeated_offered (i, m) se = counted _ _ se (build a b s α _ _ (λ pair. Unit {0}) (λ pair el f. offer_repeated pair s α (ap stage_of e) lt (el α ∙ i) m) (found K zero_lead passed 0) (quiet K) tt (λ only. tt) (λ only five. absurd (omega arith)))

      pub vanishing_offered : Classed K j α Class.Vanishing → state_of j' ≡ counting s (tallied Tallied.Vanishing s.tally) → Offered K a b s α (state_of j') (Err (Refusal.Vanishing α)) × Sound K a b j'
      unfolding found
      vanishing_offered (fresh, look) se =
          let g = gathering_sound K a b j e sound in
          counted _ _ se (build a b s α _ _ (λ pair. pair.at_point α ≡ zero_lead) (λ pair el f. offer_vanishing pair s α (ap stage_of e) lt (el α ∙ fresh.element) fresh.apart f)
          (found K zero_lead passed 0) (quiet K) refl (λ only. found_vanishing laws only a b g.opens α fresh.element (look a b g.workings fresh.element laws only (prepared laws only a b g.opens))) (λ only five. absurd (omega arith)))

      pub high_offered : (k : ℕ) → Classed K j α (Class.High k) → state_of j' ≡ counting s (tallied Tallied.High s.tally) → Offered K a b s α (state_of j') (Err (Refusal.High α k)) × Sound K a b j'
      unfolding found
      high_offered k (fresh, high, (rows, is, look)) se =
          let g = gathering_sound K a b j e sound in
          counted _ _ se (build a b s α _ _ (λ pair. pair.at_point α ≡ image k) (λ pair el f. offer_high pair s α (ap stage_of e) lt (el α ∙ fresh.element) fresh.apart k f high)
          (found K (image k) passed 0) (found_owed K (image k) passed 0 (not_blocked K k) (not_blocked_test K)) refl
          (λ only. found_image laws only a b g.opens α rows.degree rows.rows.divisor rows.rows.left rows.rows.right fresh.element (look a b g.workings fresh.element) ∙ ap image is) (λ only five. absurd (omega arith)))

  -- a fault makes the job void
  pub stuck_offered : (j' : Job) (x : DivisionFault) (r : Refusal) → j.standing ≡ Standing.Gathering → j.counts.offered < limit → Classed K j α (Class.Stuck x) → r ≡ Refusal.NoField (element_of x) Stage.Offer →
      state_of j' ≡ moved j (void r) j.ceiling j.level 0 j.counts.held → j'.standing ≡ Standing.Void r → Offered K a b s α (state_of j') (Err r) × Sound K a b j'
  unfolding found
  stuck_offered j' x r e lt (fresh, look) re se st =
      let g = gathering_sound K a b j e sound in
      let faulty = look a b g.workings fresh.element in
      let c : ℕ = element_of x in (
        build a b s α (state_of j') (Err r) (λ pair. pair.at_point α ≡ blocked c)
            (λ pair el f. offer_stuck pair s α (ap stage_of e) lt (el α ∙ fresh.element) fresh.apart c f ∙ ap (λ (q : Refusal). (moved j (void q) j.ceiling j.level 0 j.counts.held, Err q)) (sym re) ∙ ap (λ (t : State). (t, Err r)) (sym se))
            (found K (blocked c) passed 0) (found_owed K (blocked c) passed 0 (λ d f. let same : c ≡ d = cc in subst (Lacks K) same (faulty_lacks K x faulty)) (not_blocked_test K)) refl (λ only. absurd (faulty_field K x faulty only)) (λ only. absurd (faulty_field K x faulty only)),
        sound_void K a b j' r st (λ only. absurd (faulty_field K x faulty only)),
      )
