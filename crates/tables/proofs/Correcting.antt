-- A multiple of m is taken from each row, so that its value at x becomes v.
use Rattle.std.proofs.Common.{◌≡◌, ℕ, ◌+◌, ◌*◌, ◌<◌, ◌≤◌, true, false, List, [], ◌∷◌, length, get_or, Ok, Err, sym, refl, ap, ◌∙◌, arith, below_more}
use borrow.Rule.Slice.PartMut.{put_mid}
use Rattle.coefficients.specs.Arithmetic.{Arithmetic, Laws}
use Rattle.coefficients.specs.Reciprocal.{Refused}
use Rattle.coefficients.specs.declared.kind.ReciprocalFault.{ReciprocalFault}
use Rattle.coefficients.specs.declared.kind.ReciprocalFault.TheVariants.{Foreign, NoReciprocal}
use Rattle.algebra.specs.Ring.{Ring, combine, add_assoc, neg_add, add_zero}
use Rattle.algebra.specs.Solver.{by_ring, quoting}
use Rattle.algebra.specs.Polynomial.{Poly, same, at, evaluate}
use Rattle.algebra.specs.Change.{number, of_number, at_number}
use Rattle.polynomials.specs.Elements.{Element, element_same, element_discrete, elements, read, polynomial, polynomials}
use Rattle.polynomials.specs.Rows.{Inside, cut_row}
use Rattle.polynomials.specs.Relations.{Value}
use Rattle.polynomials.specs.Steps.{Lessened, Valued}
use Rattle.tables.specs.Join.{Corrected, Corrects, Correction}
use Rattle.polynomials.proofs.Terms.{mono, term, of_term}
use Rattle.tables.proofs.CutRows.{cut_row_inside, cut_rows_inside, replaced_same, replaced_other}
use Rattle.polynomials.proofs.Meaning.{code_one, code_mul, code_sub, lessened}

module _ {K : Arithmetic} (laws : Laws K) where
  open elements laws use {one as 𝟙, add as ◌⊕◌, neg as ⊖◌, mul as ◌⊙◌}
  open polynomials laws use {add as ◌⊹◌, neg as ⁻◌, mul as ◌⋆◌}

  infixl 60 ◌⊕◌
  infixl 70 ◌⊙◌
  infix 80 ⊖◌
  infixl 60 ◌⊹◌
  infixl 70 ◌⋆◌
  infix 80 ⁻◌
  -- the values of a polynomial less a multiple of another
  pub value_less : (a x : Element K) (f g m : Poly (elements laws)) → g ≡ f ⊹ ⁻ (number (elements laws) (element_discrete K) a ⋆ m) → at (elements laws) (element_discrete K) x g ⊕ a ⊙ at (elements laws) (element_discrete K) x m ≡ at (elements laws) (element_discrete K) x f
  unfolding evaluate
  value_less a x f g m e =
      let R : Ring (Element K) = elements laws in
      let eq = element_discrete K in
      let value : Poly R → Element K = at R eq x in
      ap (λ c. value g ⊕ c ⊙ value m) (sym (at_number R eq x a))
      ∙ ap (λ c. value g ⊕ c) (sym ((evaluate R eq x).map_mul _ _))
      ∙ sym ((evaluate R eq x).map_add _ _)
      ∙ ap value (ap (λ p. p ⊹ number R eq a ⋆ m) e ∙ back f (number R eq a ⋆ m))
    where
      back : (f d : Poly (elements laws)) → f ⊹ ⁻ d ⊹ d ≡ f
      back f d = add_assoc (polynomials laws) _ _ _ ∙ ap (λ p. f ⊹ p) (neg_add (polynomials laws) d) ∙ add_zero (polynomials laws) f

  pub term_number : (a : Element K) → term (elements laws) (element_discrete K) a 0 ≡ number (elements laws) (element_discrete K) a
  unfolding mono
  term_number a = same (elements laws) (element_discrete K) (of_term _ _ a 0 ∙ sym (of_number _ _ a))

  -- the value is v after the step
  settled : (g c m f v i : Element K) → g ⊕ c ⊙ m ≡ f → c ≡ (f ⊕ ⊖ v) ⊙ i → m ⊙ i ≡ 𝟙 → g ≡ v
  settled g c m f v i p q r = combine (elements laws) 𝟙 p (combine (elements laws) (⊖ m) q (combine (elements laws) (v ⊕ ⊖ f) r (by_ring (elements laws) (g ∷ c ∷ m ∷ f ∷ v ∷ i ∷ []) (search quoting depth 30) tt)))

module _ {K : Arithmetic} (m f g : List ℕ) (x i v t c : ℕ) (lm : length m ≡ 32) (lf : length f ≡ 32) (lg : length g ≡ 32) (factor : c ≡ K.product (K.difference t v) i) (L : Lessened K f g 0 c m 32) where
  corrected : (laws : Laws K) → Inside K m → Inside K f → K.element i ≡ true → K.element v ≡ true → Value laws f x t → (w : ℕ) → Value laws m x w → K.product w i ≡ K.one → Corrected laws m f x v g
  corrected laws hm hf hi hv told w at-m inverse = record { by = by; is = is; value = ap (λ (a : Element K). a.0) (settled laws _ by (value m) (value f) (v, hv) (i, hi) (value_less laws by (read laws x) _ _ _ is) by_is one_is) }
    where
      value : List ℕ → Element K
      value l = at (elements laws) (element_discrete K) (read laws x) (polynomial laws l)

      by : Element K
      by = (c, ap K.element factor ∙ laws.product_in _ _)

      is : polynomial laws g ≡ (polynomials laws).add (polynomial laws f) ((polynomials laws).neg ((polynomials laws).mul (number (elements laws) (element_discrete K) by) (polynomial laws m)))
      is = lessened laws f g m 0 c 32 by.1 hf hm (omega arith) (omega arith) (omega arith) (λ j le lt. absurd (omega arith)) L ∙ ap (λ p. (polynomials laws).add (polynomial laws f) ((polynomials laws).neg ((polynomials laws).mul p (polynomial laws m)))) (term_number laws by)

      by_is : by ≡ (elements laws).mul ((elements laws).add (value f) ((elements laws).neg (v, hv))) (i, hi)
      by_is = element_same K (factor ∙ sym (code_mul laws _ _ ∙ ap (λ d. K.product d i) (code_sub laws (value f) (v, hv) ∙ ap (λ d. K.difference d v) told)))

      one_is : (elements laws).mul (value m) (i, hi) ≡ (elements laws).one
      one_is = element_same K (code_mul laws _ _ ∙ ap (λ d. K.product d i) at-m ∙ inverse ∙ sym (code_one laws))

  pub corrects : Laws K → Valued K f x t → Corrects K m x i v f g
  corrects laws told hm hf hx hi hv = (λ j lt. inside j (omega arith), λ lw. corrected lw hm hf hi hv ((told hf hx).1 lw))
    where
      inside : (j : ℕ) → j < 32 → K.element (get_or g j 0) ≡ true
      inside j lt =
          let e : 0 + j ≡ j = omega arith in
          ap (λ k. K.element (get_or g k 0)) (sym e) ∙ ap K.element (L.inside j lt) ∙ laws.difference_in _ _

-- the rows of f below n became those of t, and the others stand
pub record Correcting (K : Arithmetic) (m : List ℕ) (x i : ℕ) (vs f t : List ℕ) (n : ℕ) : Type 0 where
  pub done : (k : ℕ) → k < n → Corrects K m x i (get_or vs k 0) (cut_row 32 f k) (cut_row 32 t k)
  pub rest : (k : ℕ) → n ≤ k → cut_row 32 t k ≡ cut_row 32 f k

module _ (K : Arithmetic) (m : List ℕ) (x i : ℕ) (vs f : List ℕ) where
  pub correcting_more : (t r : List ℕ) (n w : ℕ) → w ≡ 32 → length t ≡ 512 → length r ≡ 32 → n < 16 → Corrects K m x i (get_or vs n 0) (cut_row 32 t n) r → Correcting K m x i vs f t n → Correcting K m x i vs f (put_mid (32 * n) w t r) (n + 1)
  correcting_more t r n w wi lt lr within step h = record {
    done =
        below_more (λ k. Corrects K m x i (get_or vs k 0) (cut_row 32 f k) (cut_row 32 (put_mid (32 * n) w t r) k)) n
        (λ k l. moved k _ _ _ refl (replaced_other t r n w wi lt lr within k (omega arith)) (h.done k l))
        (moved n _ _ _ (h.rest n (omega arith)) (replaced_same t r n w wi lt lr within) step);
    rest = λ k le. replaced_other t r n w wi lt lr within k (omega arith) ∙ h.rest k (omega arith);
  }
    where
      moved : (k : ℕ) (a b c : List ℕ) {d : List ℕ} → a ≡ b → d ≡ c → Corrects K m x i (get_or vs k 0) a c → Corrects K m x i (get_or vs k 0) b d
      moved k a b c p q h = rw (← p, q) h

  -- the end
  pub corrected_rows : (t : List ℕ) (w : ℕ) → length t ≡ 512 → length vs ≡ 16 → Valued K m x w → K.element i ≡ true → K.product w i ≡ K.one → Correcting K m x i vs f t 16 → Correction K m x vs f t (Ok tt)
  corrected_rows t w lt lv told hi inverse h hm hx hv hf = (cut_rows_inside K t lt (λ k l. (row k l).0), λ lw k l. (row k l).1 lw w ((told hm hx).1 lw) inverse)
    where
      row : (k : ℕ) → k < 16 → Inside K (cut_row 32 t k) × ((laws : Laws K) (w : ℕ) → Value laws m x w → K.product w i ≡ K.one → Corrected laws m (cut_row 32 f k) x (get_or vs k 0) (cut_row 32 t k))
      row k l = h.done k l hm (cut_row_inside K 32 f k hf) hx hi (hv k (omega arith))

-- no reciprocal
pub refused : (K : Arithmetic) (m : List ℕ) (x : ℕ) (vs f : List ℕ) (w : ℕ) (e : ReciprocalFault) → Valued K m x w → Refused K w e → Correction K m x vs f f (Err e)
refused K m x vs f w (Foreign c) told (is, foreign) = (refl, λ hm hx. let z : true ≡ false = sym (told hm hx).0 ∙ foreign in let z : ◌≡◌ {A = ℕ} 0 1 = cc in absurd (omega arith))
refused K m x vs f w (NoReciprocal c) told (is, inside, none) = (refl, λ hm hx. (c, refl, ap K.element is ∙ inside, λ r p. none r (ap (λ a. K.product a r) (sym is) ∙ p), λ lw. (told hm hx).1 lw ∙ sym is))
