-- The checks of an opening one after the other, and the job that comes of them.
use Rattle.std.proofs.Common.{◌≡◌, ℕ, ◌-◌, ◌<◌, true, List, length, get_or, Some, None, Ok, Err, Result, sym, refl, ap, ◌∙◌, subst, inl, inr, arith}
use Rattle.coefficients.specs.Arithmetic.{Arithmetic, Laws, IsField}
use Rattle.polynomials.specs.Rows.{Inside, Sized}
use Rattle.polynomials.specs.Elements.{table}
use Rattle.values.specs.Meaning.{scalars}
use Rattle.brown.specs.Prepared.{Prepared}
use Rattle.brown.proofs.Preparation.{preparation}
use Rattle.tables.specs.declared.faults.DivisionFault.{DivisionFault}
use Rattle.tables.specs.declared.faults.DivisionFault.TheVariants.{Reciprocal, Uneven}
use Rattle.rules.specs.declared.refusal.Table.TheVariants.{A, B}
use Rattle.rules.specs.declared.refusal.Stage.TheVariants.{Opening}
use Rattle.rules.specs.declared.refusal.Refusal.{Refusal}
use Rattle.rules.specs.declared.refusal.Refusal.TheVariants.{NoField}
use Rattle.rules.specs.Numbers.{number}
use Rattle.rules.specs.Job.{gathering, started}
use Rattle.steps.specs.declared.prepare.Workings.{Workings}
use Rattle.steps.specs.Faults.{Faulty}
use Rattle.steps.specs.Prepare.{Nonzero, WorkingsOf, Preparing}
use Rattle.rulebook.specs.Pairs.{pair_of}
use Rattle.rulebook.specs.Opening.{opening, Openable}
use Rattle.rulebook.proofs.Right.{pair_right}
use Rattle.rulebook.proofs.Opening.{refuses_length_A, refuses_length_B, refuses_code_A, refuses_code_B, refuses_zero_A, refuses_zero_B, refuses_lead_A, refuses_lead_B, opens, openable, opens_job}
use Rattle.reducer.specs.declared.standing.Standing.{Standing}
use Rattle.reducer.specs.declared.standing.Standing.TheVariants.{Gathering}
use Rattle.reducer.specs.declared.job.Job.{Job}
use Rattle.reducer.specs.State.{state_of}
use Rattle.reducer.specs.Sound.{Holds, Gathers, SoundAs, Sound, element_of, Lacks}
use Rattle.reducer.specs.Checks.{Long, AllElements, SomeCode, Leads, Checked, Begun, Voided}
use Rattle.reducer.specs.Promises.{Opened}

-- over a field the code before the place n has a reciprocal
leads_over_field : {K : Arithmetic} (t : List ℕ) (n : ℕ) → Inside K t → Sized K t n → 0 < n → ((q : ℕ) → K.product (get_or t (n - 1) 0) q ≡ K.one → ⊥) → IsField K → ⊥
leads_over_field t n inside sized some not only =
    let w = sized.within in
    let (r, _, is) = only (get_or t (n - 1) 0) (inside (n - 1) (omega arith)) (sized.lead some) in
    not r is

-- The checks in their order.
module _ (K : Arithmetic) (a b : List ℕ) where
  refuses : {r q : Refusal} → r ≡ q → opening K a b ≡ Some q → (IsField K → ¬ (number q ≡ 5)) → Checked K a b (Err r)
  refuses e o n = (o ∙ ap (λ (x : Refusal). Some x) (sym e), λ only h. n only (sym (ap number e) ∙ h))

  pub length_A : (r : Refusal) → Long A a (Err r) → Checked K a b (Err r)
  length_A r (e, n) = refuses e (refuses_length_A K a b n) (λ only h. omega arith)

  module _ (a_long : length a ≡ 256) where
    pub length_B : (r : Refusal) → Long B b (Err r) → Checked K a b (Err r)
    length_B r (e, n) = refuses e (refuses_length_B K a b a_long n) (λ only h. omega arith)

    module _ (b_long : length b ≡ 256) where
      pub elements_A : (r : Refusal) → AllElements K A a (Err r) → Checked K a b (Err r)
      elements_A r (place, code, e, f) = refuses e (refuses_code_A K a b a_long b_long place code f) (λ only h. omega arith)

      module _ (a_inside : Inside K a) where
        pub elements_B : (r : Refusal) → AllElements K B b (Err r) → Checked K a b (Err r)
        elements_B r (place, code, e, f) = refuses e (refuses_code_B K a b a_long b_long a_inside place code f) (λ only h. omega arith)

        module _ (b_inside : Inside K b) where
          pub some_A : (r : Refusal) → SomeCode K A a (Err r) → Checked K a b (Err r)
          some_A r (e, s) = refuses e (refuses_zero_A K a b a_long b_long a_inside b_inside s) (λ only h. omega arith)

          module _ (m : ℕ) (of_A : SomeCode K A a (Ok m)) where
            pub some_B : (r : Refusal) → SomeCode K B b (Err r) → Checked K a b (Err r)
            some_B r (e, s) = refuses e (refuses_zero_B K a b a_long b_long a_inside b_inside m of_A.0 of_A.1 s) (λ only h. omega arith)

            module _ (n : ℕ) (of_B : SomeCode K B b (Ok n)) where
              pub lead_A : (r : Refusal) → Leads K (get_or a (m - 1) 0) (Err r) → Checked K a b (Err r)
              lead_A r (e, not) = refuses e (refuses_lead_A K a b a_long b_long a_inside b_inside m of_A.0 of_A.1 n of_B.0 of_B.1 not) (λ only h. leads_over_field a m a_inside of_A.0 of_A.1 not only)

              pub lead_B : Laws K → Leads K (get_or a (m - 1) 0) (Ok tt) → (answer : Result (Unit {0}) Refusal) → Leads K (get_or b (n - 1) 0) answer → Checked K a b answer
              lead_B laws (r, is) (Ok u) (q, es) = opens K a b a_long b_long a_inside b_inside m of_A.0 of_A.1 n of_B.0 of_B.1 laws r is q es
              lead_B laws (r, is) (Err x) (e, not) = refuses e (refuses_lead_B K a b a_long b_long a_inside b_inside m of_A.0 of_A.1 n of_B.0 of_B.1 laws r is not) (λ only h. leads_over_field b n b_inside of_B.0 of_B.1 not only)

-- Faults that a field never gives.
no_field : (K : Arithmetic) (e : DivisionFault) → Faulty K e → IsField K → ⊥
no_field K (Reciprocal e) f = f.0
no_field K Uneven f = f

lacks : (K : Arithmetic) (e : DivisionFault) → Faulty K e → Lacks K (element_of e)
lacks K (Reciprocal e) (none, (c, is, inside, not)) =
    let named : element_of (Reciprocal e) ≡ c = ap (λ x. element_of (Reciprocal x)) is in
    (none, inl (subst (λ (d : ℕ). (K.element d ≡ true) × ((r : ℕ) → K.product d r ≡ K.one → ⊥)) (sym named) (inside, not)))
lacks K Uneven none = (none, inr refl)

-- An opening that no check refuses.
module _ {K : Arithmetic} (laws : Laws K) (a b : List ℕ) (passed : opening K a b ≡ None) where
  pub tables : Openable laws a b
  tables = openable laws a b passed

  A_nonzero : Nonzero K a
  A_nonzero laws = (openable laws a b passed).A_nonzero

  B_nonzero : Nonzero K b
  B_nonzero laws = (openable laws a b passed).B_nonzero

  no_refusal : {T : Type 0} (r : Refusal) → opening K a b ≡ Some r → T
  no_refusal r e = let z : ◌≡◌ {A = ℕ} 0 1 = cc in absurd (omega arith)

  -- the tables are prepared
  module _ (w : Workings) (prepared : Preparing K a b (Ok w)) (j : Job) (begun : Begun Gathering w j) where
    workings : WorkingsOf K a b w
    workings = prepared.1 tables.A_inside tables.B_inside

    ceiling_is : IsField K → w.ceiling ≡ (pair_of K a b).first_ceiling
    ceiling_is only =
        let p : Prepared (scalars laws only) (table laws a) (table laws b) = (preparation (scalars laws only)).prepared (table laws a) (table laws b) tables.A_nonzero tables.B_nonzero in
        let right = pair_right laws only a b tables.A_long tables.B_long tables.A_inside tables.B_inside p in
        (workings.same laws only p).ceiling ∙ sym right.first_ceiling

    pub begun_opened : Opened K a b (state_of j)
    begun_opened = record {
      refuses = λ r e. no_refusal r e;
      over_field = λ only. begun.state ∙ ap (started gathering) (ceiling_is only) ∙ sym (opens_job K a b passed);
      over_kind = λ e. inl (w.ceiling, begun.state);
    }

    nothing : Holds K a b j.level 0 j.points j.images
    nothing = record { inside = λ i h. absurd (omega arith); distinct = tt; are_images = λ i h. absurd (omega arith) }

    gathers : Gathers K a b j
    gathers = record {
      opens = passed;
      workings = subst (WorkingsOf K a b) (sym begun.works) workings;
      holds = subst (λ (n : ℕ). Holds K a b j.level n j.points j.images) (sym begun.none) nothing;
    }

    pub begun_sound : Sound K a b j
    begun_sound = subst (λ (s : Standing). SoundAs s K a b j) (sym begun.stands) gathers

  -- .. or the kind is no field
  module _ (e : DivisionFault) (prepared : Preparing K a b (Err e)) (c : ℕ) (named : c ≡ element_of e) (j : Job) (voided : Voided (NoField c Opening) j) where
    faulty : Faulty K e
    faulty = prepared tables.A_inside tables.B_inside A_nonzero B_nonzero

    pub voided_opened : Opened K a b (state_of j)
    voided_opened = record {
      refuses = λ r e. no_refusal r e;
      over_field = λ only. absurd (no_field K e faulty only);
      over_kind = λ o. inr (c, subst (Lacks K) (sym named) (lacks K e faulty), voided.state);
    }

    pub voided_sound : Sound K a b j
    voided_sound = subst (λ (s : Standing). SoundAs s K a b j) (sym voided.stands) (λ only. absurd (no_field K e faulty only))
