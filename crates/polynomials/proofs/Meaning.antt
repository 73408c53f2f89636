-- Rows of codes and the polynomials that they mean.
use Rattle.std.proofs.Common.{◌≡◌, ℕ, zero, suc, ◌+◌, ◌-◌, ◌<◌, ◌≤◌, true, cond, ◌≢◌, ◌⊎◌, List, length, get_or, set, sym, refl, ap, ◌∙◌, ap₂, inl, inr, arith, take, length-take, get_or-take, length-set, get_or-set_other, get_or-set_same}
use mathlib.Core.Path.{fun_ext}
use Rattle.std.proofs.lemmas.List.{get_or_past, get_or_default}
use Rattle.std.proofs.lemmas.Bool.{cond-true, cases_lt, cases_eq}
use Rattle.coefficients.specs.Arithmetic.{Arithmetic, Laws}
use Rattle.algebra.specs.Ring.{ring, mul_zero, add_zero, zero_add}
use Rattle.algebra.specs.Series.{Series, series, at_add, at_neg, at_zero}
use Rattle.algebra.specs.Polynomial.{size, make_is, same, size_unique, of_add, of_neg, of_mul, of_zero, Tight}
use Rattle.polynomials.specs.Elements.{Element, element_same, element_discrete, elements, read, coefficients, past_end, polynomial, polynomials}
use Rattle.polynomials.specs.Rows.{Inside, Sized}
use Rattle.polynomials.specs.Steps.{Lessened}
use Rattle.polynomials.proofs.Terms.{mono, mono_below, mono_at, mono_under, mono_mul, mono_mul_under, term, of_term}

module _ {K : Arithmetic} (laws : Laws K) where
  open elements laws use {zero as 𝟘, one as 𝟙, add as ◌⊕◌, neg as ⊖◌, mul as ◌⊙◌}
  open series (elements laws) use {add as ◌⊞◌, neg as ⊟◌, mul as ◌⊠◌}
  open polynomials laws use {zero as O, add as ◌⊹◌, neg as ⁻◌, mul as ◌⋆◌}

  infixl 60 ◌⊕◌
  infixl 70 ◌⊙◌
  infix 80 ⊖◌
  infixl 60 ◌⊞◌
  infixl 70 ◌⊠◌
  infix 80 ⊟◌
  infixl 60 ◌⊹◌
  infixl 70 ◌⋆◌
  infix 80 ⁻◌
  pub of_polynomial : (l : List ℕ) → (polynomial laws l).0 ≡ coefficients laws l
  unfolding polynomial
  of_polynomial l = make_is (elements laws) (element_discrete K) _ _ _

  -- the codes of the ring's answers
  pub code_zero : 𝟘.0 ≡ K.zero
  unfolding elements
  code_zero = refl

  pub code_one : 𝟙.0 ≡ K.one
  unfolding elements
  code_one = refl

  pub code_mul : (a b : Element K) → (a ⊙ b).0 ≡ K.product a.0 b.0
  unfolding elements
  code_mul a b = refl

  back : (a b : Element K) → (K.difference a.0 b.0, laws.difference_in a.0 b.0) ⊕ b ≡ a
  unfolding elements
  back a b = element_same K (laws.less_sum _ _ a.1 b.1)

  pub code_sub : (a b : Element K) → (a ⊕ ⊖ b).0 ≡ K.difference a.0 b.0
  code_sub a b =
      let d : Element K = (K.difference a.0 b.0, laws.difference_in a.0 b.0) in
      let e : a ⊕ ⊖ b ≡ d = ap (λ x. x ⊕ ⊖ b) (sym (back a b)) ∙ cancel d b in
      ap (λ (x : Element K). x.0) e
    where
      cancel : (d b : Element K) → d ⊕ b ⊕ ⊖ b ≡ d
      cancel d b = simp ring

  -- the coefficient at a place of a row of elements
  pub code_at : (l : List ℕ) (k : ℕ) → Inside K l → k < length l → (coefficients laws l k).0 ≡ get_or l k 0
  code_at l k h lt = let e : get_or l k K.zero ≡ get_or l k 0 = get_or_default l k K.zero 0 lt in cond-true _ _ _ (ap K.element e ∙ h k lt) ∙ e

  pub zero_at : (l : List ℕ) (k : ℕ) → get_or l k 0 ≡ K.zero → coefficients laws l k ≡ 𝟘
  zero_at l k e = go (cases_lt k (length l))
    where
      go : (k < length l) ⊎ (length l ≤ k) → coefficients laws l k ≡ 𝟘
      go (inl lt) = ap (read laws) (get_or_default l k K.zero 0 lt ∙ e ∙ sym (get_or_past l (length l) K.zero (omega arith))) ∙ past_end laws l (length l) (omega arith)
      go (inr le) = past_end laws l k le

  pub same_at : (l m : List ℕ) (k : ℕ) → length l ≡ length m → get_or l k 0 ≡ get_or m k 0 → coefficients laws l k ≡ coefficients laws m k
  same_at l m k n e = go (cases_lt k (length l))
    where
      go : (k < length l) ⊎ (length l ≤ k) → coefficients laws l k ≡ coefficients laws m k
      go (inl lt) = ap (read laws) (get_or_default l k K.zero 0 lt ∙ e ∙ get_or_default m k 0 K.zero (omega arith))
      go (inr le) = past_end laws l k le ∙ sym (past_end laws m k (omega arith))

  -- a row's size is its polynomial's
  pub size_is : (l : List ℕ) (n : ℕ) → Inside K l → Sized K l n → size (elements laws) (polynomial laws l) ≡ n
  size_is l n h s = size_unique (elements laws) (polynomial laws l).0 _ n (polynomial laws l).1.1.0 (polynomial laws l).1.1.1 (λ k le. at k ∙ past k le) (tight n s)
    where
      at : (k : ℕ) → (polynomial laws l).0 k ≡ coefficients laws l k
      at k = ap (λ (f : Series (Element K)). f k) (of_polynomial l)

      past : (k : ℕ) → n ≤ k → coefficients laws l k ≡ 𝟘
      past k le = go (cases_lt k (length l))
        where
          go : (k < length l) ⊎ (length l ≤ k) → coefficients laws l k ≡ 𝟘
          go (inl lt) = zero_at l k (s.zeros k le lt)
          go (inr le) = past_end laws l k le

      tight : (n : ℕ) → Sized K l n → Tight (elements laws) (polynomial laws l).0 n
      tight zero s = tt
      tight (suc n) s = λ e.
          let w = s.within in
          let i : suc n - 1 ≡ n = omega arith in
          s.lead (omega arith) (ap (λ j. get_or l j 0) i ∙ sym (code_at l n h (omega arith)) ∙ ap (λ (x : Element K). x.0) (sym (at n) ∙ e) ∙ code_zero)

  -- what is left after a multiple was taken away
  module _ (f f' g : List ℕ) (s c n : ℕ) (ci : K.element c ≡ true) (fi : Inside K f) (gi : Inside K g) (len : length f' ≡ length f) (fits : s + n ≤ length f) (gn : n ≤ length g) (gz : (i : ℕ) → n ≤ i → i < length g → get_or g i 0 ≡ K.zero) (L : Lessened K f f' s c g n) where
    lessened_at : (k : ℕ) → coefficients laws f' k ≡ coefficients laws f k ⊕ ⊖ (mono (elements laws) (c, ci) s ⊠ coefficients laws g) k
    lessened_at k = go (cases_lt k s) (cases_lt k (s + n))
      where
        m : Series (Element K)
        m = mono (elements laws) (c, ci) s ⊠ coefficients laws g

        nothing : m k ≡ 𝟘 → get_or f' k 0 ≡ get_or f k 0 → coefficients laws f' k ≡ coefficients laws f k ⊕ ⊖ m k
        nothing z e = same_at f' f k len e ∙ rw z (simp ring)

        go : (k < s) ⊎ (s ≤ k) → (k < s + n) ⊎ (s + n ≤ k) → coefficients laws f' k ≡ coefficients laws f k ⊕ ⊖ m k
        go (inl lt) y = nothing (mono_mul_under (elements laws) (c, ci) s (coefficients laws g) k lt) (L.below k lt)
        go (inr le) (inr over) =
            let j : ℕ = k - s in
            let e : k ≡ s + j = omega arith in
            let z : coefficients laws g j ≡ 𝟘 = none j (omega arith) in
            nothing (mono_mul (elements laws) (c, ci) s (coefficients laws g) j k e ∙ rw z (mul_zero (elements laws) (c, ci))) (L.above k over)
          where
            none : (j : ℕ) → n ≤ j → coefficients laws g j ≡ 𝟘
            none j le = far (cases_lt j (length g))
              where
                far : (j < length g) ⊎ (length g ≤ j) → coefficients laws g j ≡ 𝟘
                far (inl lt) = zero_at g j (gz j le lt)
                far (inr past) = past_end laws g j past
        go (inr le) (inl lt) =
            let j : ℕ = k - s in
            let e : k ≡ s + j = omega arith in
            let q : m k ≡ (c, ci) ⊙ coefficients laws g j = mono_mul (elements laws) (c, ci) s (coefficients laws g) j k e in
            let l : get_or f' k 0 ≡ K.difference (get_or f k 0) (K.product c (get_or g j 0)) = ap (λ i. get_or f' i 0) e ∙ L.inside j (omega arith) ∙ ap (λ i. K.difference (get_or f i 0) (K.product c (get_or g j 0))) (sym e) in
            element_same K (known l ∙ sym (code_sub (coefficients laws f k) (m k) ∙ ap₂ K.difference (code_at f k fi (omega arith)) (ap (λ (x : Element K). x.0) q ∙ code_mul (c, ci) (coefficients laws g j) ∙ ap (K.product c) (code_at g j gi (omega arith)))))
          where
            known : {x y : ℕ} → get_or f' k 0 ≡ K.difference x y → (coefficients laws f' k).0 ≡ K.difference x y
            known {x} {y} e = let d = get_or_default f' k K.zero 0 (omega arith) in cond-true _ _ _ (ap K.element (d ∙ e) ∙ laws.difference_in x y) ∙ d ∙ e

    pub lessened : polynomial laws f' ≡ polynomial laws f ⊹ ⁻ (term (elements laws) (element_discrete K) (c, ci) s ⋆ polynomial laws g)
    lessened = same (elements laws) (element_discrete K) (of_polynomial f' ∙ fun_ext at ∙ sym (of_add _ _ _ _ ∙ ap₂ ◌⊞◌ (of_polynomial f) (of_neg _ _ _ ∙ ap ⊟◌ (of_mul _ _ _ _ ∙ ap₂ ◌⊠◌ (of_term _ _ (c, ci) s) (of_polynomial g)))))
      where
        at : (k : ℕ) → coefficients laws f' k ≡ (coefficients laws f ⊞ ⊟ (mono (elements laws) (c, ci) s ⊠ coefficients laws g)) k
        at k = lessened_at k ∙ sym (at_add _ _ _ k ∙ ap (λ x. coefficients laws f k ⊕ x) (at_neg _ _ k))

  -- a row with one more coefficient
  pub placed : (q : List ℕ) (s c : ℕ) (ci : K.element c ≡ true) → s < length q → get_or q s 0 ≡ K.zero → polynomial laws (set q s c) ≡ polynomial laws q ⊹ term (elements laws) (element_discrete K) (c, ci) s
  placed q s c ci lt z = same (elements laws) (element_discrete K) (of_polynomial _ ∙ fun_ext at ∙ sym (of_add _ _ _ _ ∙ ap₂ ◌⊞◌ (of_polynomial q) (of_term _ _ (c, ci) s)))
    where
      m : Series (Element K)
      m = mono (elements laws) (c, ci) s

      beside : (k : ℕ) → k ≢ s → m k ≡ 𝟘
      beside k ne = go (cases_lt k s)
        where
          go : (k < s) ⊎ (s ≤ k) → m k ≡ 𝟘
          go (inl l) = mono_under (elements laws) (c, ci) s k l
          go (inr l) = mono_below (elements laws) (c, ci) s k (omega arith)

      by : (k : ℕ) → (k ≡ s) ⊎ (k ≢ s) → coefficients laws (set q s c) k ≡ coefficients laws q k ⊕ m k
      by k (inl e) = rw (e, mono_at (elements laws) (c, ci) s, zero_at q s z) (element_same K (ap (λ i. cond (K.element i) i K.zero) (get_or-set_same q s c K.zero lt) ∙ cond-true _ _ _ ci) ∙ sym (zero_add (elements laws) (c, ci)))
      by k (inr ne) = same_at (set q s c) q k (length-set q s c) (get_or-set_other q s k c 0 ne) ∙ rw (beside k ne) (sym (add_zero (elements laws) _))

      at : (k : ℕ) → coefficients laws (set q s c) k ≡ (coefficients laws q ⊞ m) k
      at k = by k (cases_eq k s) ∙ sym (at_add _ _ _ k)

  -- a row of zeros
  pub cleared : (q : List ℕ) → ((i : ℕ) → i < length q → get_or q i 0 ≡ K.zero) → polynomial laws q ≡ O
  cleared q z = same (elements laws) (element_discrete K) (of_polynomial q ∙ fun_ext (λ k. go k (cases_lt k (length q)) ∙ sym (at_zero _ k)) ∙ sym (of_zero _ _))
    where
      go : (k : ℕ) → (k < length q) ⊎ (length q ≤ k) → coefficients laws q k ≡ 𝟘
      go k (inl lt) = zero_at q k (z k lt)
      go k (inr le) = past_end laws q k le

-- taking a multiple away leaves elements
pub lessened_inside : {K : Arithmetic} → Laws K → (p p' : List ℕ) (s c : ℕ) (b : List ℕ) (n : ℕ) → length p' ≡ length p → Inside K p → Lessened K p p' s c b n → Inside K p'
lessened_inside {K} laws p p' s c b n len h L i lt = go (cases_lt i s) (cases_lt i (s + n))
  where
    go : (i < s) ⊎ (s ≤ i) → (i < s + n) ⊎ (s + n ≤ i) → K.element (get_or p' i 0) ≡ true
    go (inl x) y = ap K.element (L.below i x) ∙ h i (omega arith)
    go (inr x) (inl y) =
        let e : s + (i - s) ≡ i = omega arith in
        ap (λ j. K.element (get_or p' j 0)) (sym e) ∙ ap K.element (L.inside (i - s) (omega arith)) ∙ laws.difference_in _ _
    go (inr x) (inr y) = ap K.element (L.above i y) ∙ h i (omega arith)

-- what the first n codes of a row leave
pub lessened_take : {K : Arithmetic} (p p' : List ℕ) (s c : ℕ) (b : List ℕ) (n : ℕ) → n ≤ length b → Lessened K p p' s c (take n b) (length (take n b)) → Lessened K p p' s c b n
lessened_take {K} p p' s c b n le L = record {
  inside = λ j lt. L.inside j (let e = length-take n b in omega arith) ∙ ap (λ x. K.difference (get_or p (s + j) 0) (K.product c x)) (get_or-take n b j 0 lt);
  below = L.below;
  above = λ i over. L.above i (let e = length-take n b in omega arith);
}
