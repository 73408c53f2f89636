-- An offer that makes as many points as the closing number: what is joined, tested and answered.
use Rattle.std.proofs.Common.{◌≡◌, ℕ, ◌+◌, ◌-◌, ◌*◌, ◌<◌, Bool, true, false, cond, ltb, List, [], ◌∷◌, ◌++◌, length, get_or, take, set, Some, None, Ok, Err, Result, sym, refl, ap, ◌∙◌, subst, ap₂, arith, length-take}
use Rattle.coefficients.specs.Arithmetic.{Arithmetic, Laws, IsField}
use Rattle.rules.specs.declared.answer.Answer.{Answer}
use Rattle.rules.specs.declared.counts.Counts.{Counts}
use Rattle.rules.specs.declared.refusal.Refusal.{Refusal}
use Rattle.rules.specs.declared.refusal.Stage.TheVariants as Stage
use Rattle.rules.specs.Job.{passed, failed, blocked_test, limit, Tally, Stage, gathering, settled, void, State}
use Rattle.rules.specs.Offer.{member, too_high, held_with, let_go, settles, conclude}
use Rattle.polynomials.specs.Rows.{cut_row}
use Rattle.rulebook.specs.Pairs.{pair_of}
use Rattle.rulebook.proofs.Opening.{openable}
use Rattle.tables.specs.declared.faults.DivisionFault.{DivisionFault}
use Rattle.steps.specs.declared.prepare.Workings.{Workings}
use Rattle.steps.specs.declared.look.ImageRows.{ImageRows}
use Rattle.steps.specs.declared.factored.Factored.{Factored}
use Rattle.steps.specs.Look.{ImagesOf}
use Rattle.steps.specs.Prepare.{WorkingsOf}
use Rattle.steps.specs.Answer.{ReductionOf}
use Rattle.steps.specs.Verdict.{Enough, Deciding}
use Rattle.reducer.specs.declared.standing.Standing.TheVariants as Standing
use Rattle.reducer.specs.declared.job.Job.{Job}
use Rattle.reducer.specs.State.{stage_of, tally_of, state_of}
use Rattle.reducer.specs.Sound.{Sound, element_of, Lacks}
use Rattle.reducer.specs.Held.{Written}
use Rattle.reducer.specs.Promises.{Offered}
use Rattle.reducer.specs.Holding.{moved, Fitting, Complete}
use Rattle.reducer.proofs.Accepting.{tested_offered}
use Rattle.reducer.proofs.Found.{faulty_lacks, faulty_field, prepared, found_passed, found_failed, found_closing}
use Rattle.reducer.proofs.Offers.{not_blocked_test}
use Rattle.reducer.proofs.Keeping.{holds_less, take_less, set_here, kept_some, holds_with, holds_none, take_last, gathered_first}
use Rattle.reducer.proofs.Sounds.{holds_kept, sound_gathering, sound_settled, sound_void}

-- As many points as the closing number, the last of which is written already.
module _ {K : Arithmetic} (laws : Laws K) (a b : List ℕ) (j : Job) (k : ℕ) (t : Complete K a b j k) (room : j.counts.offered < limit) (long : length j.points ≡ 31) (few : j.counts.held < 31) where
  abbrev α : ℕ
  α = get_or j.points j.counts.held 0

  abbrev s : State
  s = state_of j

  -- all points of the job and the last one
  points_are : held_with s k α ≡ take (j.counts.held + 1) j.points
  points_are = ap (λ l. l ++ α ∷ []) (go (ltb k j.level) t.all_kept) ∙ sym (take_last j.counts.held j.points (omega arith))
    where
      go : (x : Bool) → cond x 0 j.counts.held ≡ j.counts.held → cond x [] (take j.counts.held j.points) ≡ take j.counts.held j.points
      go true e = ap (λ m. take m j.points) e
      go false e = refl

  none_gone : let_go s k ≡ 0
  none_gone = go (ltb k j.level) t.all_kept
    where
      go : (x : Bool) → cond x 0 j.counts.held ≡ j.counts.held → cond x (length (take j.counts.held j.points)) 0 ≡ 0
      go true e = ap (λ m. length (take m j.points)) (sym e)
      go false e = refl

  number : length (held_with s k α) ≡ j.workings.closing
  number = ap length points_are ∙ (simp length-take (omega arith)) ∙ t.number

  last : ImagesOf K a b α k (cut_row 16 j.images.divisor j.counts.held) (cut_row 16 j.images.left j.counts.held) (cut_row 16 j.images.right j.counts.held)
  last = t.holds.are_images j.counts.held (omega arith)

  -- what is joined and tested
  pub enough : (n : ℕ) → n ≡ j.counts.held + 1 → Enough K a b j.workings k (take n j.points) (take (16 * n) j.images.divisor) (take (16 * n) j.images.left) (take (16 * n) j.images.right)
  enough n e =
      let can = openable laws a b t.gathers.opens in
      record { A_long = can.A_long; B_long = can.B_long; A_inside = can.A_inside; B_inside = can.B_inside; workings = t.gathers.workings; gathered = gathered_first a b k n j.points j.images (omega arith) (holds_kept refl (sym e) refl refl t.holds); number = simp length-take (omega (arith, t.number)) }

  abbrev n : ℕ
  n = j.counts.held + 1

  abbrev points : List ℕ
  points = take n j.points

  known : Enough K a b j.workings k points (take (16 * n) j.images.divisor) (take (16 * n) j.images.left) (take (16 * n) j.images.right)
  known = enough n refl

  field_closing : IsField K → (pair_of K a b).closing ≡ j.workings.closing
  field_closing only = found_closing laws only a b t.gathers.opens j.workings t.gathers.workings

  -- the test is passed
  pub passed_settled : (j' : Job) (answer : Answer) (reduction : Factored 256) → Deciding K j.workings points (take (16 * n) j.images.divisor) (take (16 * n) j.images.left) (take (16 * n) j.images.right) (Ok (Some reduction)) →
      state_of j' ≡ moved j settled j.ceiling k (j.counts.held - j.counts.held) n → j'.standing ≡ Standing.Settled → j'.reduction ≡ reduction → answer ≡ Answer.Settled k (j.counts.held - j.counts.held) → Offered K a b s α (state_of j') (Ok answer) × Sound K a b j'
  passed_settled j' answer reduction decided se st re ae =
      let (reduced, tested) = decided a b k known in
      let nothing : 0 ≡ j.counts.held - j.counts.held = omega arith in (
        tested_offered laws a b j α k _ _ _ t.standing room t.gathers t.fresh t.low last passed j.workings.closing t.some number (not_blocked_test K)
            (λ only. (field_closing only, ap (pair_of K a b).test points_are ∙ found_passed laws only a b t.gathers.opens k points known.gathered.inside (tested laws only (prepared laws only a b t.gathers.opens)))) (state_of j') (Ok answer)
            (ap₂ (λ x y. conclude s k x y settles) points_are (none_gone ∙ nothing) ∙ ap₂ (λ (x : State) (y : Answer). (x, Ok y)) (sym se) (sym ae)) (λ only. tt),
        sound_settled K a b j' st (record { opens = t.gathers.opens; reduction = subst (ReductionOf K a b) (sym re) reduced }),
      )

  not_blocked_failed : (c : ℕ) → failed ≡ blocked_test c → Lacks K c
  not_blocked_failed c e = let z : ◌≡◌ {A = ℕ} 0 1 = cc in absurd (omega arith)

  -- the test is failed
  pub failed_overturned : (j' : Job) (answer : Answer) → Deciding K j.workings points (take (16 * n) j.images.divisor) (take (16 * n) j.images.left) (take (16 * n) j.images.right) (Ok None) →
      state_of j' ≡ moved j gathering k k n 0 → j'.standing ≡ Standing.Gathering → j'.counts.held ≡ 0 → j'.workings ≡ j.workings → answer ≡ Answer.Overturned k n → Offered K a b s α (state_of j') (Ok answer) × Sound K a b j'
  failed_overturned j' answer decided se st he we ae =
      let tested = decided a b k known in
      let all : let_go s k + length (held_with s k α) ≡ n = let x = none_gone in let y = number in let z = t.number in omega arith in (
        tested_offered laws a b j α k _ _ _ t.standing room t.gathers t.fresh t.low last failed j.workings.closing t.some number not_blocked_failed
            (λ only. (field_closing only, ap (pair_of K a b).test points_are ∙ found_failed laws only a b t.gathers.opens k points known.gathered.inside (tested laws only (prepared laws only a b t.gathers.opens)))) (state_of j') (Ok answer)
            (ap (λ (m : ℕ). (moved j gathering k k m 0, Ok (Answer.Overturned k m))) all ∙ ap₂ (λ (x : State) (y : Answer). (x, Ok y)) (sym se) (sym ae)) (λ only. tt),
        sound_gathering K a b j' st (record { opens = t.gathers.opens; workings = subst (WorkingsOf K a b) (sym we) t.gathers.workings; holds = holds_kept refl (sym he) refl refl (holds_none a b j'.level j'.points j'.images) }),
      )

  -- a fault on the way
  pub blocked_void : (j' : Job) (x : DivisionFault) (q : Refusal) → Deciding K j.workings points (take (16 * n) j.images.divisor) (take (16 * n) j.images.left) (take (16 * n) j.images.right) (Err x) → q ≡ Refusal.NoField (element_of x) Stage.Offer →
      state_of j' ≡ moved j (void q) j.ceiling j.level 0 j.counts.held → j'.standing ≡ Standing.Void q → Offered K a b s α (state_of j') (Err q) × Sound K a b j'
  blocked_void j' x q decided qe se st =
      let faulty = decided a b k known in
      let c : ℕ = element_of x in (
        tested_offered laws a b j α k _ _ _ t.standing room t.gathers t.fresh t.low last (blocked_test c) j.workings.closing t.some number (λ y f. let same : c ≡ y = cc in subst (Lacks K) same (faulty_lacks K x faulty))
            (λ only. absurd (faulty_field K x faulty only)) (state_of j') (Err q)
            (ap (λ (y : Refusal). (moved j (void y) j.ceiling j.level 0 j.counts.held, Err y)) (sym qe) ∙ ap (λ (y : State). (y, Err q)) (sym se)) (λ only. absurd (faulty_field K x faulty only)),
        sound_void K a b j' q st (λ only. absurd (faulty_field K x faulty only)),
      )

-- The point is written in the last place: the job j₁ is j with it.
module _ {K : Arithmetic} (a b : List ℕ) (j : Job) (α : ℕ) (image : ImageRows) (fit : Fitting K a b j α image) (long : length j.points ≡ 31) (few : j.counts.held < 31) (below : j.counts.held < j.workings.closing) (n : ℕ) (n_is : n ≡ cond (ltb image.degree j.level) 0 j.counts.held) (closes : n + 1 ≡ j.workings.closing) (some : ¬ (image.degree ≡ 0))
    (images' : Factored 496) (w : Written j.images n image.rows images') where
  abbrev k : ℕ
  k = image.degree

  all : n ≡ j.counts.held
  all = let le = kept_some j k n n_is few in omega arith

  module _ (j₁ : Job) (e_standing : j₁.standing ≡ j.standing) (e_ceiling : j₁.ceiling ≡ j.ceiling) (e_level : j₁.level ≡ j.level) (e_counts : j₁.counts ≡ j.counts) (e_workings : j₁.workings ≡ j.workings) (e_points : j₁.points ≡ set j.points n α) (e_images : j₁.images ≡ images') where
    e_held : j₁.counts.held ≡ j.counts.held
    e_held = ap (λ (c : Counts). c.held) e_counts

    first_points : take j₁.counts.held j₁.points ≡ take j.counts.held j.points
    first_points = ap₂ take e_held e_points ∙ ap (λ m. take m (set j.points n α)) (sym all) ∙ take_less n j.points α ∙ ap (λ m. take m j.points) all

    pub same_state : state_of j₁ ≡ state_of j
    same_state = build_state (ap stage_of e_standing) e_ceiling e_level first_points (ap tally_of e_counts)
      where
        build_state : {t t' : Stage} {c c' l l' : ℕ} {h h' : List ℕ} {y y' : Tally} → t ≡ t' → c ≡ c' → l ≡ l' → h ≡ h' → y ≡ y' → ◌≡◌ {A = State} (record { stage = t; ceiling = c; level = l; held = h; tally = y }) (record { stage = t'; ceiling = c'; level = l'; held = h'; tally = y' })
        build_state e f g p q = cc

    pub same_point : get_or j₁.points j₁.counts.held 0 ≡ α
    same_point = ap₂ (λ l m. get_or l m 0) e_points (e_held ∙ sym all) ∙ set_here n j.points α (let le = kept_some j k n n_is few in omega arith)

    pub complete : Complete K a b j₁ k
    complete = record {
      standing = e_standing ∙ fit.standing;
      gathers = record { opens = fit.gathers.opens; workings = subst (WorkingsOf K a b) (sym e_workings) fit.gathers.workings; holds = holds_kept (sym e_level) (all ∙ sym e_held) (sym e_points) (sym e_images) (holds_less a b j.level n j.points j.images images' α _ (holds_kept refl (sym all) refl refl fit.gathers.holds) w) };
      fresh = record { element = ap K.element same_point ∙ fit.fresh.element; apart = ap₂ member same_point first_points ∙ fit.fresh.apart };
      low = ap (λ (x : State). too_high x k) same_state ∙ fit.low;
      some = some;
      all_kept = ap₂ (λ x y. cond (ltb k x) 0 y) e_level e_held ∙ sym n_is ∙ all ∙ sym e_held;
      number = ap (λ m. m + 1) (e_held ∙ sym all) ∙ closes ∙ ap (λ (w : Workings). w.closing) (sym e_workings);
      holds = holds_kept refl (ap (λ m. m + 1) (all ∙ sym e_held)) (sym e_points) (sym e_images) (holds_with j k n n_is few a b α _ images' long fit.gathers.holds fit.fresh.element fit.fresh.apart fit.low fit.images w);
    }

  -- what is promised of j₁ is promised of j
  pub carried : (j₁ j' : Job) (r : Result Answer Refusal) → (Complete K a b j₁ k → Offered K a b (state_of j₁) (get_or j₁.points j₁.counts.held 0) (state_of j') r × Sound K a b j') →
      j₁.standing ≡ j.standing → j₁.ceiling ≡ j.ceiling → j₁.level ≡ j.level → j₁.counts ≡ j.counts → j₁.workings ≡ j.workings → j₁.points ≡ set j.points n α → j₁.images ≡ images' → Offered K a b (state_of j) α (state_of j') r × Sound K a b j'
  carried j₁ j' r promise e₀ e₁ e₂ e₃ e₄ e₅ e₆ =
      let (o, x) = promise (complete j₁ e₀ e₁ e₂ e₃ e₄ e₅ e₆) in
      (subst (λ (v : State). Offered K a b v α (state_of j') r) (same_state j₁ e₀ e₁ e₂ e₃ e₄ e₅ e₆) (subst (λ (v : ℕ). Offered K a b (state_of j₁) v (state_of j') r) (same_point j₁ e₀ e₁ e₂ e₃ e₄ e₅ e₆) o), x)
