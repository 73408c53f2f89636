-- A product of rows, one term of the first after the other.
use Rattle.std.proofs.Common.{◌≡◌, ℕ, ◌+◌, ◌<◌, ◌≤◌, true, cond, ◌≢◌, ◌⊎◌, List, [], ◌∷◌, length, get_or, take, Ok, sym, ap, ◌∙◌, ap₂, inl, inr, zero-le, arith, length-take, get_or-take}
use mathlib.Core.Path.{fun_ext}
use Rattle.std.proofs.lemmas.List.{get_or_default}
use Rattle.std.proofs.lemmas.Bool.{cases_lt, cases_eq, cond-true}
use Rattle.coefficients.specs.Arithmetic.{Arithmetic, Laws}
use Rattle.algebra.specs.Ring.{zero_mul, mul_zero, add_zero, zero_add, neg_zero}
use Rattle.algebra.specs.Series.{series, at_add, at_neg}
use Rattle.algebra.specs.Polynomial.{Poly, same, of_add, of_neg}
use Rattle.algebra.specs.Solver.{by_ring, quoting}
use Rattle.polynomials.specs.Elements.{Element, element_same, element_discrete, elements, read, coefficients, past_end, polynomial, polynomials, empty_row}
use Rattle.polynomials.specs.Rows.{Inside, Sized}
use Rattle.polynomials.specs.Steps.{Lessened}
use Rattle.polynomials.specs.Product.{Multiplied}
use Rattle.polynomials.proofs.Terms.{mono, mono_at, mono_below, mono_under, term, of_term}
use Rattle.polynomials.proofs.Meaning.{of_polynomial, zero_at, lessened, lessened_inside, cleared}

-- p is the product of b and of the first i terms of a
pub record Multiplying (K : Arithmetic) (a b p : List ℕ) (i : ℕ) : Type 0 where
  pub inside : Inside K p
  pub is : (laws : Laws K) → Inside K a → Inside K b → polynomial laws p ≡ (polynomials laws).mul (polynomial laws (take i a)) (polynomial laws b)

module _ {K : Arithmetic} (laws : Laws K) where
  open elements laws use {zero as 𝟘, add as ◌⊕◌, neg as ⊖◌}
  open polynomials laws use {zero as O, add as ◌⊹◌, neg as ⁻◌, mul as ◌⋆◌}

  infixl 60 ◌⊕◌
  infix 80 ⊖◌
  infixl 60 ◌⊹◌
  infixl 70 ◌⋆◌
  infix 80 ⁻◌
  -- one more term of a row
  take_term : (a : List ℕ) (i : ℕ) (ci : K.element (get_or a i 0) ≡ true) → i < length a → polynomial laws (take (i + 1) a) ≡ polynomial laws (take i a) ⊹ term (elements laws) (element_discrete K) (get_or a i 0, ci) i
  take_term a i ci lt = same (elements laws) (element_discrete K) (of_polynomial laws _ ∙ fun_ext at ∙ sym (of_add _ _ _ _ ∙ ap₂ (series (elements laws)).add (of_polynomial laws (take i a)) (of_term _ _ (get_or a i 0, ci) i)))
    where
      c : Element K
      c = (get_or a i 0, ci)

      long : (n : ℕ) → n ≤ length a → length (take n a) ≡ n
      long n le = rw (length-take n a) (omega arith)

      read_at : (n k : ℕ) → k < n → n ≤ length a → coefficients laws (take n a) k ≡ read laws (get_or a k K.zero)
      read_at n k lt le = ap (read laws) (get_or-take n a k K.zero lt)

      beside : (k : ℕ) → k ≢ i → mono (elements laws) c i k ≡ 𝟘
      beside k ne = go (cases_lt k i)
        where
          go : (k < i) ⊎ (i ≤ k) → mono (elements laws) c i k ≡ 𝟘
          go (inl l) = mono_under (elements laws) c i k l
          go (inr l) = mono_below (elements laws) c i k (omega arith)

      by : (k : ℕ) → (k ≡ i) ⊎ (k ≢ i) → coefficients laws (take (i + 1) a) k ≡ coefficients laws (take i a) k ⊕ mono (elements laws) c i k
      by k (inl e) =
          let short = long i (omega arith) in
          rw (e, mono_at (elements laws) c i, past_end laws (take i a) i (omega arith)) (read_at (i + 1) i (omega arith) (omega arith) ∙ element_same K (ap (λ n. cond (K.element n) n K.zero) (get_or_default a i K.zero 0 lt) ∙ cond-true _ _ _ ci) ∙ sym (zero_add (elements laws) c))
      by k (inr ne) = rw (beside k ne) (other (cases_lt k i) ∙ sym (add_zero (elements laws) _))
        where
          other : (k < i) ⊎ (i ≤ k) → coefficients laws (take (i + 1) a) k ≡ coefficients laws (take i a) k
          other (inl l) = read_at (i + 1) k (omega arith) (omega arith) ∙ sym (read_at i k l (omega arith))
          other (inr l) =
              let more = long (i + 1) (omega arith) in
              let short = long i (omega arith) in
              past_end laws (take (i + 1) a) k (omega arith) ∙ sym (past_end laws (take i a) k (omega arith))

      at : (k : ℕ) → coefficients laws (take (i + 1) a) k ≡ (series (elements laws)).add (coefficients laws (take i a)) (mono (elements laws) c i) k
      at k = by k (cases_eq k i) ∙ sym (at_add _ _ _ k)

  mono_neg : (c : Element K) (s k : ℕ) → mono (elements laws) (⊖ c) s k ≡ ⊖ mono (elements laws) c s k
  mono_neg c s k = go (cases_eq k s)
    where
      nothing : ⊖ 𝟘 ≡ 𝟘
      nothing = neg_zero (elements laws)

      zeros : mono (elements laws) (⊖ c) s k ≡ 𝟘 → mono (elements laws) c s k ≡ 𝟘 → mono (elements laws) (⊖ c) s k ≡ ⊖ mono (elements laws) c s k
      zeros e f = e ∙ sym (ap ⊖◌ f ∙ nothing)

      go : (k ≡ s) ⊎ (k ≢ s) → mono (elements laws) (⊖ c) s k ≡ ⊖ mono (elements laws) c s k
      go (inl e) = rw e (mono_at (elements laws) (⊖ c) s ∙ ap ⊖◌ (sym (mono_at (elements laws) c s)))
      go (inr ne) = far (cases_lt k s)
        where
          far : (k < s) ⊎ (s ≤ k) → mono (elements laws) (⊖ c) s k ≡ ⊖ mono (elements laws) c s k
          far (inl l) = zeros (mono_under (elements laws) (⊖ c) s k l) (mono_under (elements laws) c s k l)
          far (inr l) = zeros (mono_below (elements laws) (⊖ c) s k (omega arith)) (mono_below (elements laws) c s k (omega arith))

  term_neg : (c : Element K) (s : ℕ) → term (elements laws) (element_discrete K) (⊖ c) s ≡ ⁻ term (elements laws) (element_discrete K) c s
  term_neg c s = same (elements laws) (element_discrete K) (of_term _ _ (⊖ c) s ∙ fun_ext (λ k. mono_neg c s k ∙ sym (at_neg _ _ k)) ∙ sym (of_neg _ _ _ ∙ ap (series (elements laws)).neg (of_term _ _ c s)))

  code_neg : (c : Element K) (n : ℕ) (h : K.element n ≡ true) → n ≡ K.difference K.zero c.0 → (n, h) ≡ ⊖ c
  unfolding elements
  code_neg c n h e = element_same K e

  -- what is taken away by the negative of a term is added by the term
  pub added : (p p' a b : List ℕ) (i n negative : ℕ) → (ai : Inside K a) → Inside K b → Inside K p → i < length a → length p' ≡ length p → i + n ≤ length p → Sized K b n → negative ≡ K.difference K.zero (get_or a i 0) → Lessened K p p' i negative b n → polynomial laws p ≡ polynomial laws (take i a) ⋆ polynomial laws b → polynomial laws p' ≡ polynomial laws (take (i + 1) a) ⋆ polynomial laws b
  added p p' a b i n negative ai bi pi lt len fits bs e L is =
      let c : Element K = (get_or a i 0, ai i lt) in
      let ni : K.element negative ≡ true = ap K.element e ∙ laws.difference_in _ _ in
      let t = term (elements laws) (element_discrete K) c i in
      lessened laws p p' b i negative n ni pi bi len fits bs.within bs.zeros L
      ∙ ap₂ (λ q m. q ⊹ ⁻ (m ⋆ polynomial laws b)) is (ap (λ d. term (elements laws) (element_discrete K) d i) (code_neg c negative ni e) ∙ term_neg c i)
      ∙ spread (polynomial laws (take i a)) (polynomial laws b) t
      ∙ ap (λ q. q ⋆ polynomial laws b) (sym (take_term a i (ai i lt) lt))
    where
      spread : (q b t : Poly (elements laws)) → q ⋆ b ⊹ ⁻ (⁻ t ⋆ b) ≡ (q ⊹ t) ⋆ b
      spread q b t = by_ring (polynomials laws) (q ∷ b ∷ t ∷ []) (search quoting depth 30) tt

  -- all terms of a row
  pub take_all : (a : List ℕ) (n : ℕ) → Inside K a → Sized K a n → polynomial laws (take n a) ≡ polynomial laws a
  take_all a n ha s = same (elements laws) (element_discrete K) (of_polynomial laws _ ∙ fun_ext at ∙ sym (of_polynomial laws a))
    where
      past : (k : ℕ) → n ≤ k → (k < length a) ⊎ (length a ≤ k) → coefficients laws a k ≡ 𝟘
      past k le (inl lt) = zero_at laws a k (s.zeros k le lt)
      past k le (inr over) = past_end laws a k over

      at : (k : ℕ) → coefficients laws (take n a) k ≡ coefficients laws a k
      at k = go (cases_lt k n)
        where
          go : (k < n) ⊎ (n ≤ k) → coefficients laws (take n a) k ≡ coefficients laws a k
          go (inl lt) = ap (read laws) (get_or-take n a k K.zero lt)
          go (inr le) =
              let w = s.within in
              let l : length (take n a) ≡ n = rw (length-take n a) (omega arith) in
              past_end laws (take n a) k (omega arith) ∙ sym (past k le (cases_lt k (length a)))

pub multiplying_none : (K : Arithmetic) → Laws K → (a b p : List ℕ) → ((i : ℕ) → i < length p → get_or p i 0 ≡ K.zero) → Multiplying K a b p 0
multiplying_none K laws a b p z = record {
  inside = λ i lt. ap K.element (z i lt) ∙ laws.zero_in;
  is = λ lw ha hb. cleared lw p z ∙ sym (ap (λ q. (polynomials lw).mul q (polynomial lw b)) (empty_row lw) ∙ zero_mul (polynomials lw) _);
}

pub multiplying_more : (K : Arithmetic) → Laws K → (a b p p' : List ℕ) (i n negative : ℕ) → i < length a → length p' ≡ length p → i + n ≤ length p → Sized K b n → negative ≡ K.difference K.zero (get_or a i 0) → Lessened K p p' i negative b n → Multiplying K a b p i → Multiplying K a b p' (i + 1)
multiplying_more K laws a b p p' i n negative lt len fits bs e L m = record {
  inside = lessened_inside laws p p' i negative b n len m.inside L;
  is = λ lw ha hb. added lw p p' a b i n negative ha hb m.inside lt len fits bs e L (m.is lw ha hb);
}

pub multiplied : (K : Arithmetic) (a b p : List ℕ) (n : ℕ) → Sized K a n → Multiplying K a b p n → Multiplied K a b p p (Ok tt)
multiplied K a b p n s m ha hb = (m.inside, λ lw. m.is lw ha hb ∙ ap (λ q. (polynomials lw).mul q (polynomial lw b)) (take_all lw a n ha s))

-- a product with zero
pub multiplied_zero : (K : Arithmetic) → Laws K → (a b p : List ℕ) → Sized K b 0 → ((i : ℕ) → i < length p → get_or p i 0 ≡ K.zero) → Multiplied K a b p p (Ok tt)
multiplied_zero K laws a b p s z ha hb =
    (λ i lt. ap K.element (z i lt) ∙ laws.zero_in, λ lw. cleared lw p z ∙ sym (ap ((polynomials lw).mul (polynomial lw a)) (cleared lw b (λ i lt. s.zeros i zero-le lt)) ∙ mul_zero (polynomials lw) _))
