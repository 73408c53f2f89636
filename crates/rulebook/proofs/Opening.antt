-- What an opening answers in each way that its checks can end, and that over a field only tables that are too long or too short, foreign codes and zeros are refused.
use Rattle.std.proofs.Common.{◌≡◌, ℕ, zero, suc, ◌+◌, ◌-◌, ◌<◌, Bool, true, false, eqb, List, [], ◌∷◌, ◌++◌, length, get_or, take, drop, Some, None, Option, sym, refl, ap, ◌∙◌, subst, ap₂, arith}
use Rattle.std.proofs.lemmas.Bool.{eqb-true, eq-eqb, ne_eqb}
use Rattle.coefficients.specs.Arithmetic.{Arithmetic, Laws, IsField}
use Rattle.algebra.specs.Lists.{All}
use Rattle.algebra.specs.Change.{Poly₂, poly₂}
use Rattle.polynomials.specs.Rows.{Inside, FirstForeign, Sized}
use Rattle.polynomials.specs.Elements.{element_discrete, elements, read, table}
use Rattle.rules.specs.declared.refusal.Table.{Table}
use Rattle.rules.specs.declared.refusal.Table.TheVariants.{A, B}
use Rattle.rules.specs.declared.refusal.Stage.TheVariants.{Opening}
use Rattle.rules.specs.declared.refusal.Refusal.{Refusal}
use Rattle.rules.specs.declared.refusal.Refusal.TheVariants.{Length, ForeignCode, Zero, NoField}
use Rattle.rules.specs.Job.{State, opened, refused}
use Rattle.values.specs.Ops.{Ops, codes, lists, put, trim, lead, none}
use Rattle.values.specs.Tables.{cut, rows, pad, spread, table_of}
use Rattle.values.specs.Meaning.{Codes, In, TrimmedY, TrimmedYx, polynomial₂}
use Rattle.values.specs.Relations.{Unique}
use Rattle.values.proofs.Elements.{elements_codes, reading_y, inside_all, all_inside}
use Rattle.values.proofs.Lists.{trim_in, lead_in, lead_nonzero}
use Rattle.values.proofs.Values.{values}
use Rattle.rulebook.specs.Pairs.{pair_of}
use Rattle.rulebook.specs.Opening.{unless, first_refusal, length_check, codes_check, zero_check, leading_code, has_reciprocal, lead_check, opening, open_rule, OpeningAnswers, Openable, OpeningLaw}

-- tests and refusals
pub passes : (b : Bool) (r : Refusal) → b ≡ true → unless b r ≡ None
passes b r e = ap (λ x. unless x r) e

pub fails : (b : Bool) (r : Refusal) → b ≡ false → unless b r ≡ Some r
fails b r e = ap (λ x. unless x r) e

passed : (b : Bool) (r : Refusal) → unless b r ≡ None → b ≡ true
passed true r e = refl
passed false r e = let z : ◌≡◌ {A = ℕ} 0 1 = cc in absurd (omega arith)

-- the first of some checks that refuses
pub data First : List (Option Refusal) → Option Refusal → Type 0 where
  done : First [] None
  found : {c : Option Refusal} {cs : List (Option Refusal)} {r : Refusal} → c ≡ Some r → First (c ∷ cs) (Some r)
  next : {c : Option Refusal} {cs : List (Option Refusal)} {r : Option Refusal} → c ≡ None → First cs r → First (c ∷ cs) r

pub first_is : {cs : List (Option Refusal)} {r : Option Refusal} → First cs r → first_refusal cs ≡ r
first_is done = refl
first_is (found {c} {cs} {r} e) = ap (λ o. first_refusal (o ∷ cs)) e
first_is (next {c} {cs} {r} e t) = ap (λ o. first_refusal (o ∷ cs)) e ∙ first_is t

none_found : (c : Option Refusal) (cs : List (Option Refusal)) → first_refusal (c ∷ cs) ≡ None → (c ≡ None) × (first_refusal cs ≡ None)
none_found None cs e = (refl, e)
none_found (Some r) cs e = let z : ◌≡◌ {A = ℕ} 0 1 = cc in absurd (omega arith)

-- lengths
length_passes : (name : Table) (t : List ℕ) → length t ≡ 256 → length_check name t ≡ None
length_passes name t e = passes _ _ (eq-eqb (length t) 256 e)

length_fails : (name : Table) (t : List ℕ) → ¬ (length t ≡ 256) → length_check name t ≡ Some (Length name (length t))
length_fails name t n = fails _ _ (ne_eqb (length t) 256 n)

module _ (K : Arithmetic) where
  abbrev O : Ops ℕ
  O = codes K

  -- codes
  abbrev by_element : Table → ℕ → ℕ → List ℕ → Bool → Option Refusal
  by_element name n c t z = elim z [ true ↦ codes_check K name (suc n) t | false ↦ Some (ForeignCode name n c) ]

  codes_pass : (name : Table) (t : List ℕ) (n : ℕ) → All (In K) t → codes_check K name n t ≡ None
  codes_pass name [] n h = refl
  codes_pass name (c ∷ t) n h = ap (by_element name n c t) h.0 ∙ codes_pass name t (suc n) h.1

  codes_fail : (name : Table) (t : List ℕ) (n place code : ℕ) → FirstForeign K t place code → codes_check K name n t ≡ Some (ForeignCode name (n + place) code)
  codes_fail name [] n place code f = let l = f.within in absurd (omega arith)
  codes_fail name (c ∷ t) n zero code f =
      let e : n ≡ n + 0 = omega arith in
      ap (by_element name n c t) (ap K.element f.is ∙ f.foreign) ∙ ap₂ (λ i x. Some (ForeignCode name i x)) e f.is
  codes_fail name (c ∷ t) n (suc place) code f =
      let e : suc n + place ≡ n + suc place = omega arith in
      let l = f.within in
      ap (by_element name n c t) (f.before 0 (omega arith))
      ∙ codes_fail name t (suc n) place code (record { within = omega arith; is = f.is; foreign = f.foreign; before = λ i j. f.before (suc i) (omega arith) })
      ∙ ap (λ i. Some (ForeignCode name i code)) e

  codes_passed : (name : Table) (t : List ℕ) (n : ℕ) → codes_check K name n t ≡ None → All (In K) t
  codes_passed name [] n e = tt
  codes_passed name (c ∷ t) n e = go (K.element c) refl (codes_passed name t (suc n)) e
    where
      go : (z : Bool) → K.element c ≡ z → (codes_check K name (suc n) t ≡ None → All (In K) t) → by_element name n c t z ≡ None → All (In K) (c ∷ t)
      go true h ih e = (h, ih e)
      go false h ih e = let z : ◌≡◌ {A = ℕ} 0 1 = cc in absurd (omega arith)

  -- zeros
  abbrev AllZero : List ℕ → Type 0
  AllZero t = All (λ c. c ≡ K.zero) t

  put_zero : (x : ℕ) (xs : List ℕ) → x ≡ K.zero → xs ≡ [] → put O x xs ≡ []
  put_zero x xs e f = ap₂ (put O) e f ∙ ap (λ z. elim z as (λ y. List ℕ) [ true ↦ [] | false ↦ K.zero ∷ [] ]) (eq-eqb K.zero K.zero refl)

  put_last : (x : ℕ) (xs : List ℕ) → ¬ (x ≡ K.zero) → xs ≡ [] → put O x xs ≡ x ∷ []
  put_last x xs n f = ap (put O x) f ∙ ap (λ z. elim z as (λ y. List ℕ) [ true ↦ [] | false ↦ x ∷ [] ]) (ne_eqb x K.zero n)

  zeros_trim : (t : List ℕ) → AllZero t → trim O t ≡ []
  zeros_trim [] h = refl
  zeros_trim (c ∷ t) h = put_zero c (trim O t) h.0 (zeros_trim t h.1)

  all_places : (t : List ℕ) → ((i : ℕ) → i < length t → get_or t i 0 ≡ K.zero) → AllZero t
  all_places [] h = tt
  all_places (c ∷ t) h = (h 0 (omega arith), all_places t (λ i l. h (suc i) (omega arith)))

  trim_zeros : (t : List ℕ) → trim O t ≡ [] → AllZero t
  trim_zeros [] e = tt
  trim_zeros (c ∷ t) e = go (trim O t) refl (trim_zeros t) e
    where
      last : (z : Bool) → eqb c K.zero ≡ z → elim z as (λ y. List ℕ) [ true ↦ [] | false ↦ c ∷ [] ] ≡ [] → c ≡ K.zero
      last true h e = eqb-true c K.zero h
      last false h e = let z : ◌≡◌ {A = ℕ} 0 1 = cc in absurd (omega arith)

      go : (xs : List ℕ) → trim O t ≡ xs → (trim O t ≡ [] → AllZero t) → put O c xs ≡ [] → AllZero (c ∷ t)
      go [] h ih e = (last (eqb c K.zero) refl e, ih h)
      go (x ∷ xs) h ih e = let z : ◌≡◌ {A = ℕ} 0 1 = cc in absurd (omega arith)

  -- the last code that is not zero, at place k
  lead_at : (t : List ℕ) (k : ℕ) → k < length t → ¬ (get_or t k 0 ≡ K.zero) → ((i : ℕ) → k < i → i < length t → get_or t i 0 ≡ K.zero) → (none (trim O t) ≡ false) × (lead O (trim O t) ≡ get_or t k 0)
  lead_at [] k l n h = absurd (omega arith)
  lead_at (c ∷ t) zero l n h =
      let e = put_last c (trim O t) n (zeros_trim t (all_places t (λ i j. h (suc i) (omega arith) (omega arith)))) in
      (ap none e, ap (lead O) e)
  lead_at (c ∷ t) (suc k) l n h = go (trim O t) refl (lead_at t k (omega arith) n (λ i j u. h (suc i) (omega arith) (omega arith)))
    where
      go : (xs : List ℕ) → trim O t ≡ xs → (none (trim O t) ≡ false) × (lead O (trim O t) ≡ get_or t k 0) → (none (put O c xs) ≡ false) × (lead O (put O c xs) ≡ get_or t k 0)
      go [] e ih = let f = sym (ap none e) ∙ ih.0 in let z : ◌≡◌ {A = ℕ} 0 1 = cc in absurd (omega arith)
      go (x ∷ xs) e ih = (refl, sym (ap (lead O) e) ∙ ih.1)

  abbrev by_none : Table → Bool → Option Refusal
  by_none name z = elim z [ true ↦ Some (Zero name) | false ↦ None ]

  zero_fails : (name : Table) (t : List ℕ) → Sized K t 0 → zero_check K name t ≡ Some (Zero name)
  zero_fails name t s = ap (by_none name) (ap none (zeros_trim t (all_places t (λ i l. s.zeros i (omega arith) l))))

  module _ (t : List ℕ) (n : ℕ) (s : Sized K t n) (some : 0 < n) where
    sized_lead : (none (trim O t) ≡ false) × (leading_code K t ≡ get_or t (n - 1) 0)
    sized_lead = let w = s.within in lead_at t (n - 1) (omega arith) (s.lead some) (λ i l u. s.zeros i (omega arith) u)

    zero_passes : (name : Table) → zero_check K name t ≡ None
    zero_passes name = ap (by_none name) sized_lead.0

    lead_fails : ((r : ℕ) → K.product (get_or t (n - 1) 0) r ≡ K.one → ⊥) → lead_check K t ≡ Some (NoField (get_or t (n - 1) 0) Opening)
    lead_fails not = ap (λ c. unless (has_reciprocal K c) (NoField c Opening)) sized_lead.1 ∙ fails _ _ (ne_eqb _ _ (not _))

    lead_passes : Laws K → (r : ℕ) → K.product (get_or t (n - 1) 0) r ≡ K.one → lead_check K t ≡ None
    lead_passes laws r e = ap (λ c. unless (has_reciprocal K c) (NoField c Opening)) sized_lead.1 ∙ passes _ _ (eq-eqb _ _ (laws.inverse_of _ r e))

  -- the ways in which the checks can end
  module _ (a b : List ℕ) where
    pub refuses_length_A : ¬ (length a ≡ 256) → opening K a b ≡ Some (Length A (length a))
    unfolding opening
    refuses_length_A n = first_is (found (length_fails A a n))

    module _ (a_long : length a ≡ 256) where
      pub refuses_length_B : ¬ (length b ≡ 256) → opening K a b ≡ Some (Length B (length b))
      unfolding opening
      refuses_length_B n = first_is (next (length_passes A a a_long) (found (length_fails B b n)))

      module _ (b_long : length b ≡ 256) where
        pub refuses_code_A : (place code : ℕ) → FirstForeign K a place code → opening K a b ≡ Some (ForeignCode A place code)
        unfolding opening
        refuses_code_A place code f = let e : 0 + place ≡ place = omega arith in first_is (next (length_passes A a a_long) (next (length_passes B b b_long) (found (codes_fail A a 0 place code f ∙ ap (λ i. Some (ForeignCode A i code)) e))))

        module _ (a_inside : Inside K a) where
          pub refuses_code_B : (place code : ℕ) → FirstForeign K b place code → opening K a b ≡ Some (ForeignCode B place code)
          unfolding opening
          refuses_code_B place code f =
              let e : 0 + place ≡ place = omega arith in
              first_is (next (length_passes A a a_long) (next (length_passes B b b_long) (next (codes_pass A a 0 (inside_all K a a_inside)) (found (codes_fail B b 0 place code f ∙ ap (λ i. Some (ForeignCode B i code)) e)))))

          module _ (b_inside : Inside K b) where
            past_codes : {r : Option Refusal} → First (zero_check K A a ∷ zero_check K B b ∷ lead_check K a ∷ lead_check K b ∷ []) r → opening K a b ≡ r
            unfolding opening
            past_codes t = first_is (next (length_passes A a a_long) (next (length_passes B b b_long) (next (codes_pass A a 0 (inside_all K a a_inside)) (next (codes_pass B b 0 (inside_all K b b_inside)) t))))

            pub refuses_zero_A : Sized K a 0 → opening K a b ≡ Some (Zero A)
            refuses_zero_A s = past_codes (found (zero_fails A a s))

            module _ (m : ℕ) (a_sized : Sized K a m) (a_some : 0 < m) where
              pub refuses_zero_B : Sized K b 0 → opening K a b ≡ Some (Zero B)
              refuses_zero_B s = past_codes (next (zero_passes a m a_sized a_some A) (found (zero_fails B b s)))

              module _ (n : ℕ) (b_sized : Sized K b n) (b_some : 0 < n) where
                pub refuses_lead_A : ((r : ℕ) → K.product (get_or a (m - 1) 0) r ≡ K.one → ⊥) → opening K a b ≡ Some (NoField (get_or a (m - 1) 0) Opening)
                refuses_lead_A not = past_codes (next (zero_passes a m a_sized a_some A) (next (zero_passes b n b_sized b_some B) (found (lead_fails a m a_sized a_some not))))

                module _ (laws : Laws K) (r : ℕ) (a_reciprocal : K.product (get_or a (m - 1) 0) r ≡ K.one) where
                  pub refuses_lead_B : ((r : ℕ) → K.product (get_or b (n - 1) 0) r ≡ K.one → ⊥) → opening K a b ≡ Some (NoField (get_or b (n - 1) 0) Opening)
                  refuses_lead_B not = past_codes (next (zero_passes a m a_sized a_some A) (next (zero_passes b n b_sized b_some B) (next (lead_passes a m a_sized a_some laws r a_reciprocal) (found (lead_fails b n b_sized b_some not)))))

                  pub opens : (q : ℕ) → K.product (get_or b (n - 1) 0) q ≡ K.one → opening K a b ≡ None
                  opens q b-reciprocal = past_codes (next (zero_passes a m a_sized a_some A) (next (zero_passes b n b_sized b_some B) (next (lead_passes a m a_sized a_some laws r a_reciprocal) (next (lead_passes b n b_sized b_some laws q b-reciprocal) done))))

  -- all zeros, row by row
  take_zeros : (n : ℕ) (t : List ℕ) → AllZero t → AllZero (take n t)
  take_zeros zero t h = tt
  take_zeros (suc n) [] h = tt
  take_zeros (suc n) (c ∷ t) h = (h.0, take_zeros n t h.1)

  drop_zeros : (n : ℕ) (t : List ℕ) → AllZero t → AllZero (drop n t)
  drop_zeros zero t h = h
  drop_zeros (suc n) [] h = tt
  drop_zeros (suc n) (c ∷ t) h = drop_zeros n t h.1

  append_zeros : (s t : List ℕ) → AllZero s → AllZero t → AllZero (s ++ t)
  append_zeros [] t h k = k
  append_zeros (c ∷ s) t h k = (h.0, append_zeros s t h.1 k)

  pad_zeros : (n : ℕ) → AllZero (pad K n [])
  pad_zeros zero = tt
  pad_zeros (suc n) = (refl, pad_zeros n)

  spread_zeros : (n : ℕ) → AllZero (spread K n [])
  spread_zeros zero = tt
  spread_zeros (suc n) = append_zeros (pad K 16 []) (spread K n []) (pad_zeros 16) (spread_zeros n)

  cut_zeros : (n : ℕ) (t : List ℕ) → AllZero t → cut K n t ≡ []
  cut_zeros zero t h = refl
  cut_zeros (suc n) t h = ap₂ (put (lists O)) (zeros_trim (take 16 t) (take_zeros 16 t h)) (cut_zeros n (drop 16 t) (drop_zeros 16 t h))

  zero_passed : (name : Table) (t : List ℕ) → zero_check K name t ≡ None → ¬ (trim O t ≡ [])
  zero_passed name t e z = let f = sym (ap (λ xs. by_none name (none xs)) z) ∙ e in let no_refusal : ◌≡◌ {A = ℕ} 0 1 = cc in absurd (omega arith)

-- A table means zero exactly if all its codes are zero.
module _ {K : Arithmetic} (laws : Laws K) (t : List ℕ) (long : length t ≡ 256) (inside : Inside K t) where
  abbrev 𝟎 : Poly₂ (elements laws) (element_discrete K)
  𝟎 = (poly₂ (elements laws) (element_discrete K)).zero

  abbrev rows_are : Unique (TrimmedYx K) (λ a. polynomial₂ laws a ≡ table laws t) (rows K t)
  rows_are = (values K laws).1.rows_are t long inside

  abbrev rows_codes : Codes (lists (lists (codes K))) (poly₂ (elements laws) (element_discrete K)) (TrimmedYx K) (polynomial₂ laws)
  rows_codes = (values K laws).0.polynomials₂_are

  means_some : ¬ (trim (codes K) t ≡ []) → ¬ (table laws t ≡ 𝟎)
  means_some n z =
      let e : rows K t ≡ [] = rows_codes.one_code (rows K t) [] rows_are.inside tt (rows_are.has ∙ z ∙ sym rows_codes.zero_is) in
      n (ap (trim (codes K)) (sym ((values K laws).1.table_of_rows t long) ∙ ap (table_of K) e) ∙ zeros_trim K (table_of K []) (spread_zeros K 16))

  means_none : trim (codes K) t ≡ [] → table laws t ≡ 𝟎
  means_none e = sym rows_are.has ∙ ap (polynomial₂ laws) (cut_zeros K 16 t (trim_zeros K t e)) ∙ rows_codes.zero_is

  -- .. and else the coefficient of its leading term has a reciprocal in a field
  leads_invertible : (only : IsField K) → ¬ (table laws t ≡ 𝟎) → (zero_check K A t ≡ None) × (zero_check K B t ≡ None) × (lead_check K t ≡ None)
  leads_invertible only n = go (trim (codes K) t) refl (trim_in (reading_y laws) t (inside_all K t inside))
    where
      go : (xs : List ℕ) → trim (codes K) t ≡ xs → TrimmedY K (trim (codes K) t) → (zero_check K A t ≡ None) × (zero_check K B t ≡ None) × (lead_check K t ≡ None)
      go [] e h = absurd (n (means_none e))
      go (x ∷ xs) e h =
          let k = subst (TrimmedY K) e h in
          let c = lead (codes K) (x ∷ xs) in
          let (r, r_in, is) = only c (lead_in (reading_y laws) (x ∷ xs) k) (λ z. lead_nonzero (reading_y laws) x xs k (ap (read laws) z ∙ (elements_codes laws).zero_is)) in (
            ap (λ l. by_none K A (none l)) e,
            ap (λ l. by_none K B (none l)) e,
            ap (λ l. unless (has_reciprocal K (lead (codes K) l)) (NoField (lead (codes K) l) Opening)) e ∙ passes _ _ (eq-eqb _ _ (laws.inverse_of c r is)),
          )

pub openable : {K : Arithmetic} (laws : Laws K) (a b : List ℕ) → opening K a b ≡ None → Openable laws a b
unfolding opening
openable {K} laws a b e =
    let (la, e₁) = none_found _ _ e in
    let (lb, e₂) = none_found _ _ e₁ in
    let (ca, e₃) = none_found _ _ e₂ in
    let (cb, e₄) = none_found _ _ e₃ in
    let (za, e₅) = none_found _ _ e₄ in
    let (zb, e₆) = none_found _ _ e₅ in
    let a_long = eqb-true (length a) 256 (passed _ _ la) in
    let b_long = eqb-true (length b) 256 (passed _ _ lb) in
    let a_inside = all_inside K a (codes_passed K A a 0 ca) in
    let b_inside = all_inside K b (codes_passed K B b 0 cb) in
    record {
      A_long = a_long;
      B_long = b_long;
      A_inside = a_inside;
      B_inside = b_inside;
      A_nonzero = means_some laws a a_long a_inside (zero_passed K A a za);
      B_nonzero = means_some laws b b_long b_inside (zero_passed K B b zb);
    }

pub opening_law : (K : Arithmetic) (a b : List ℕ) → OpeningLaw K a b
unfolding opening
opening_law K a b laws only = (openable laws a b, back)
  where
    back : Openable laws a b → opening K a b ≡ None
    back o =
        let (za, _, ra) = leads_invertible laws a o.A_long o.A_inside only o.A_nonzero in
        let (_, zb, rb) = leads_invertible laws b o.B_long o.B_inside only o.B_nonzero in
        past_codes K a b o.A_long o.B_long o.A_inside o.B_inside (next za (next zb (next ra (next rb done))))

pub opening_answers : (K : Arithmetic) (a b : List ℕ) → OpeningAnswers K a b
opening_answers K a b = record {
  length_A = refuses_length_A K a b;
  length_B = refuses_length_B K a b;
  code_A = refuses_code_A K a b;
  code_B = refuses_code_B K a b;
  zero_A = refuses_zero_A K a b;
  zero_B = refuses_zero_B K a b;
  lead_A = refuses_lead_A K a b;
  lead_B = refuses_lead_B K a b;
  opens = opens K a b;
}

-- the job that an opening makes
pub opens_job : (K : Arithmetic) (a b : List ℕ) → opening K a b ≡ None → open_rule K a b ≡ opened (pair_of K a b)
opens_job K a b e = ap (λ o. elim o as (λ x. State) [ Some r ↦ refused r | None ↦ opened (pair_of K a b) ]) e

pub refuses_job : (K : Arithmetic) (a b : List ℕ) (r : Refusal) → opening K a b ≡ Some r → open_rule K a b ≡ refused r
refuses_job K a b r e = ap (λ o. elim o as (λ x. State) [ Some r ↦ refused r | None ↦ opened (pair_of K a b) ]) e
