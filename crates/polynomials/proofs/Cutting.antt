-- One step of long division, and what all of them leave.
use Rattle.std.proofs.Common.{◌≡◌, ℕ, ◌+◌, ◌-◌, ◌<◌, ◌≤◌, Bool, true, false, ◌≢◌, ◌⊎◌, List, [], ◌∷◌, length, get_or, set, sym, refl, ap, ◌∙◌, ap₂, inl, inr, arith, length-set, get_or-set_other, get_or-set_same}
use Rattle.std.proofs.lemmas.Bool.{cases_lt, cases_eq}
use Rattle.coefficients.specs.Arithmetic.{Arithmetic, Laws}
use Rattle.algebra.specs.Ring.{Ring, ring}
use Rattle.algebra.specs.Polynomial.{Poly, size, size_least}
use Rattle.algebra.specs.Solver.{by_ring, quoting}
use Rattle.polynomials.specs.Elements.{element_discrete, elements, coefficients, past_end, polynomial, polynomials}
use Rattle.polynomials.specs.Rows.{Inside, Sized}
use Rattle.polynomials.specs.Steps.{Lessened, Inverts, Divided, Reduced}
use Rattle.polynomials.proofs.Terms.{term}
use Rattle.polynomials.proofs.Meaning.{of_polynomial, zero_at, size_is, lessened, lessened_inside, placed, cleared}
use Rattle.polynomials.proofs.Inverse.{sized_once}

-- zeros from t on
abbrev pub Zeros : Arithmetic → List ℕ → ℕ → Type 0
Zeros K r t = (i : ℕ) → t ≤ i → i < length r → get_or r i 0 ≡ K.zero

-- f was divided by g, of size n, down to the shift s: the quotient is Q so far, and r is left
pub record Cut (K : Arithmetic) (f g : List ℕ) (n : ℕ) (Q : (laws : Laws K) → Poly (elements laws)) (r : List ℕ) (s : ℕ) : Type 0 where
  pub zeros : Zeros K r (s + n - 1)
  pub inside : Inside K f → Inside K r
  pub is : (laws : Laws K) → Inside K f → Inside K g → polynomial laws f ≡ (polynomials laws).add ((polynomials laws).mul (Q laws) (polynomial laws g)) (polynomial laws r)

-- .. where the row q holds the quotient
pub record Dividing (K : Arithmetic) (f g : List ℕ) (n : ℕ) (q r : List ℕ) (s : ℕ) : Type 0 where
  pub cut : Cut K f g n (λ laws. polynomial laws q) r s
  pub inside : Inside K q
  pub room : (i : ℕ) → i < s → i < length q → get_or q i 0 ≡ K.zero

-- .. where nothing holds it
abbrev pub Reducing : Arithmetic → (f g : List ℕ) (n : ℕ) (r : List ℕ) (s : ℕ) → Type 0
Reducing K f g n r s = (Q : (laws : Laws K) → Poly (elements laws)) × Cut K f g n Q r s

module _ {E : Type 0} (P : Ring E) where
  open P use {zero as 𝟘, add as ◌⊕◌, neg as ⊖◌, mul as ◌⊙◌}

  infixl 60 ◌⊕◌
  infixl 70 ◌⊙◌
  infix 80 ⊖◌
  -- moving a multiple of g from the rest to the quotient
  pub moved : (f q g r m : E) → f ≡ q ⊙ g ⊕ r → f ≡ (q ⊕ m) ⊙ g ⊕ (r ⊕ ⊖ (m ⊙ g))
  moved f q g r m e = e ∙ by_ring P (q ∷ g ∷ r ∷ m ∷ []) (search quoting depth 30) tt

  pub start : (f g : E) → f ≡ 𝟘 ⊙ g ⊕ f
  start f g = simp ring

module _ {K : Arithmetic} (laws : Laws K) (g : List ℕ) (n inv : ℕ) (gs : Sized K g n) (iv : Inverts K g n inv) where
  module _ (f r r' : List ℕ) (s t c : ℕ) (st : s + 1 ≡ t) (fits : s + n ≤ length r) (len : length r' ≡ length r) (factor : c ≡ K.product (get_or r (s + n - 1) 0) inv) (L : Lessened K r r' s c g n) where
    pub factor_in : K.element c ≡ true
    factor_in = ap K.element factor ∙ laws.product_in _ _

    -- the place s + n - 1 is zero now, whatever it was
    cut_zero : get_or r' (s + n - 1) 0 ≡ K.zero
    cut_zero =
        let some = iv.some in
        let e : s + (n - 1) ≡ s + n - 1 = omega arith in
        let x : ℕ = get_or r (s + n - 1) 0 in
        let y : ℕ = get_or g (n - 1) 0 in
        let at : get_or r' (s + n - 1) 0 ≡ K.difference x (K.product (K.product x inv) y) = ap (λ i. get_or r' i 0) (sym e) ∙ L.inside (n - 1) (omega arith) ∙ ap₂ (λ i d. K.difference (get_or r i 0) (K.product d y)) e factor in
        at ∙ go x (K.element x) refl
      where
        go : (x : ℕ) (b : Bool) → K.element x ≡ b → K.difference x (K.product (K.product x inv) (get_or g (n - 1) 0)) ≡ K.zero
        go x true h =
            let y : ℕ = get_or g (n - 1) 0 in
            let back : K.product (K.product x inv) y ≡ x = laws.product_assoc x inv y h iv.inside iv.lead_in ∙ ap (K.product x) (laws.product_comm inv y ∙ iv.is) ∙ laws.product_comm x K.one ∙ laws.product_one x h in
            ap (K.difference x) back ∙ ap (λ z. K.difference z x) (sym (laws.sum_zero x h)) ∙ laws.sum_less K.zero x laws.zero_in h
        go x false h = laws.difference_foreign_left _ _ h

    cut_zeros : Zeros K r (t + n - 1) → Zeros K r' (s + n - 1)
    cut_zeros z i le lt = go (cases_eq i (s + n - 1))
      where
        go : (i ≡ s + n - 1) ⊎ (i ≢ s + n - 1) → get_or r' i 0 ≡ K.zero
        go (inl e) = rw e cut_zero
        go (inr ne) = let some = iv.some in L.above i (omega arith) ∙ z i (omega arith) (omega arith)

    -- what is taken goes to the quotient
    pub cut_more : (Q : (lw : Laws K) → Poly (elements lw)) → Cut K f g n Q r t → Cut K f g n (λ lw. (polynomials lw).add (Q lw) (term (elements lw) (element_discrete K) (c, factor_in) s)) r' s
    cut_more Q d = record {
      zeros = cut_zeros d.zeros;
      inside = λ h. lessened_inside laws r r' s c g n len (d.inside h) L;
      is = λ lw hf hg. rw (lessened lw r r' g s c n factor_in (d.inside hf) hg len fits gs.within gs.zeros L) (moved (polynomials lw) _ _ _ _ _ (d.is lw hf hg));
    }

    pub reducing_more : Reducing K f g n r t → Reducing K f g n r' s
    reducing_more (Q, d) = (_, cut_more Q d)

    pub dividing_more : (q : List ℕ) → s < length q → Dividing K f g n q r t → Dividing K f g n (set q s c) r' s
    dividing_more q lt d =
        let more = cut_more (λ lw. polynomial lw q) d.cut in
        record {
          cut = record { zeros = more.zeros; inside = more.inside; is = λ lw hf hg. rw (placed lw q s c factor_in lt (d.room s (omega arith) lt)) (more.is lw hf hg) };
          inside = λ i l. set_in i (cases_eq i s) (rw (length-set q s c) at l);
          room = λ i le l. get_or-set_other q s i c 0 (omega arith) ∙ d.room i (omega arith) (rw (length-set q s c) at l);
        }
      where
        set_in : (i : ℕ) → (i ≡ s) ⊎ (i ≢ s) → i < length q → K.element (get_or (set q s c) i 0) ≡ true
        set_in i (inl e) l = rw e (ap K.element (get_or-set_same q s c 0 lt) ∙ factor_in)
        set_in i (inr ne) l = ap K.element (get_or-set_other q s i c 0 ne) ∙ d.inside i l

  -- the end: fewer places than g has are left
  shorter : (lw : Laws K) (r : List ℕ) → Inside K g → Zeros K r (n - 1) → size (elements lw) (polynomial lw r) < size (elements lw) (polynomial lw g)
  shorter lw r hg z =
      let some = iv.some in
      let small : size (elements lw) (polynomial lw r) ≤ n - 1 = size_least (elements lw) (polynomial lw r) (n - 1) (λ k le. ap (λ f. f k) (of_polynomial lw r) ∙ past k le (cases_lt k (length r))) in
      let whole : size (elements lw) (polynomial lw g) ≡ n = size_is lw g n hg gs in
      omega arith
    where
      past : (k : ℕ) → n - 1 ≤ k → (k < length r) ⊎ (length r ≤ k) → coefficients lw r k ≡ (elements lw).zero
      past k le (inl l) = zero_at lw r k (z k le l)
      past k le (inr l) = past_end lw r k l

  pub divided : (f q r : List ℕ) (s : ℕ) → s ≤ 0 → Dividing K f g n q r s → Divided K f g r q
  divided f q r s none d hf hg = (d.inside, d.cut.inside hf, λ lw. record { is = d.cut.is lw hf hg; less = shorter lw r hg (λ i le. d.cut.zeros i (omega arith)) })

  pub reduced : (f r : List ℕ) (s : ℕ) → s ≤ 0 → Reducing K f g n r s → Reduced K f g r
  reduced f r s none (Q, d) = (
    λ hf hg. (d.inside hf, λ lw. record { quo = Q lw; is = d.is lw hf hg; less = shorter lw r hg (λ i le. d.zeros i (omega arith)) }),
    λ m i sized le. let e = sized_once K g m n sized gs in d.zeros i (omega arith),
  )

-- the start
module _ {K : Arithmetic} (laws : Laws K) (f g : List ℕ) (n s : ℕ) (past : length f ≤ s + n - 1) where
  cut_none : (Q : (lw : Laws K) → Poly (elements lw)) → ((lw : Laws K) → Q lw ≡ (polynomials lw).zero) → Cut K f g n Q f s
  cut_none Q none = record {
    zeros = λ i le lt. absurd (omega arith);
    inside = λ h. h;
    is = λ lw hf hg. rw (none lw) (start (polynomials lw) _ _);
  }

  pub dividing_none : (q : List ℕ) → ((i : ℕ) → i < length q → get_or q i 0 ≡ K.zero) → Dividing K f g n q f s
  dividing_none q z = record {
    cut = cut_none _ (λ lw. cleared lw q z);
    inside = λ i lt. ap K.element (z i lt) ∙ laws.zero_in;
    room = λ i le lt. z i lt;
  }

  pub reducing_none : Reducing K f g n f s
  reducing_none = ((λ lw. (polynomials lw).zero), cut_none _ (λ lw. refl))
