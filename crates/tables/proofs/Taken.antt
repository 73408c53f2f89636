-- A table less x^s times a multiple of another, by one step over all codes.
use Rattle.std.proofs.Common.{◌≡◌, ℕ, suc, ◌+◌, ◌-◌, ◌*◌, ◌<◌, ◌≤◌, true, ◌⊎◌, List, Ok, Err, length, get_or, drop, sym, refl, ap, ◌∙◌, inl, inr, mul_comm, mul-le-mul_left, mul-suc, mul-add, arith, length-drop, length-take}
use mathlib.Core.Path.{fun_ext}
use Rattle.std.proofs.lemmas.List.{get_or_past}
use Rattle.std.proofs.lemmas.Bool.{cases_lt}
use Rattle.coefficients.specs.Arithmetic.{Arithmetic, Laws}
use Rattle.algebra.specs.Ring.{one_mul, mul_zero, neg_zero, add_zero}
use Rattle.algebra.specs.Polynomial.{Poly, poly_discrete, same}
use Rattle.algebra.specs.Change.{number, number_one}
use Rattle.algebra.proofs.Degrees.{coef_scale}
use Rattle.polynomials.specs.Elements.{element_same, element_discrete, elements, polynomial, polynomials, polynomial_xy}
use Rattle.polynomials.specs.Rows.{Inside, cut_row}
use Rattle.polynomials.specs.Steps.{Lessened}
use Rattle.polynomials.specs.declared.product.NoRoom.{NoRoom}
use Rattle.tables.specs.Degrees.{SizedX}
use Rattle.tables.specs.Scale.{ManyTimes}
use Rattle.tables.specs.Exact.{LessMultiple, Taking}
use Rattle.polynomials.proofs.Meaning.{of_polynomial, same_at, lessened, cleared, code_one}
use Rattle.polynomials.proofs.Terms.{term}
use Rattle.tables.proofs.CutRows.{cut_row_code, cut_row_length}
use Rattle.tables.proofs.Sizes.{row_inside, row_length, of_rows, of_past}
use Rattle.tables.proofs.Correcting.{term_number}

-- the codes of k rows fit below n rows
pub rows_fit : (w k n : ℕ) → k ≤ n → w * k ≤ w * n
rows_fit w k n le = mul-le-mul_left w le

-- a table with the codes of another in its k-th row
kept_row : {K : Arithmetic} (laws : Laws K) (w : ℕ) (t t' : List ℕ) (k : ℕ) → length t' ≡ length t → ((j : ℕ) → j < w → get_or t' (w * k + j) 0 ≡ get_or t (w * k + j) 0) → polynomial laws (cut_row w t' k) ≡ polynomial laws (cut_row w t k)
kept_row {K} laws w t t' k len e = same (elements laws) (element_discrete K) (of_polynomial laws _ ∙ fun_ext (λ j. same_at laws _ _ j long (at j (cases_lt j w))) ∙ sym (of_polynomial laws _))
  where
    long : length (cut_row w t' k) ≡ length (cut_row w t k)
    long =
        let a = length-take w (drop (w * k) t) in
        let b = length-drop (w * k) t in
        let a' = length-take w (drop (w * k) t') in
        let b' = length-drop (w * k) t' in
        omega arith

    at : (j : ℕ) → (j < w) ⊎ (w ≤ j) → get_or (cut_row w t' k) j 0 ≡ get_or (cut_row w t k) j 0
    at j (inl lt) = cut_row_code w t' k j lt ∙ e j lt ∙ sym (cut_row_code w t k j lt)
    at j (inr le) = let a = row_length w t k in let b = row_length w t' k in get_or_past (cut_row w t' k) j 0 (omega arith) ∙ sym (get_or_past (cut_row w t k) j 0 (omega arith))

-- a row less another
less_row : {K : Arithmetic} (laws : Laws K) (w : ℕ) (f f' g : List ℕ) (c : ℕ) → c ≡ K.one → length f ≡ w → length f' ≡ w → length g ≡ w → Inside K f → Inside K g → ((j : ℕ) → j < w → get_or f' j 0 ≡ K.difference (get_or f j 0) (K.product c (get_or g j 0))) → polynomial laws f' ≡ (polynomials laws).add (polynomial laws f) ((polynomials laws).neg (polynomial laws g))
less_row {K} laws w f f' g c one lf lf' lg hf hg e =
    lessened laws f f' g 0 c w inside hf hg (omega arith) (omega arith) (omega arith) (λ j le lt. absurd (omega arith)) step
    ∙ ap (λ p. (polynomials laws).add (polynomial laws f) ((polynomials laws).neg p)) (ap (λ p. (polynomials laws).mul p (polynomial laws g)) unit ∙ one_mul (polynomials laws) _)
  where
    inside : K.element c ≡ true
    inside = ap K.element one ∙ laws.one_in

    unit : term (elements laws) (element_discrete K) (c, inside) 0 ≡ (polynomials laws).one
    unit = term_number laws (c, inside) ∙ ap (number (elements laws) (element_discrete K)) (element_same K (one ∙ sym (code_one laws))) ∙ number_one (elements laws) (element_discrete K)

    step : Lessened K f f' 0 c g w
    step = record {
      inside = λ j lt. let z : 0 + j ≡ j = omega arith in ap (λ i. get_or f' i 0) z ∙ e j lt ∙ ap (λ i. K.difference (get_or f i 0) (K.product c (get_or g j 0))) (sym z);
      below = λ i lt. absurd (omega arith);
      above = λ i le. get_or_past f' i 0 (omega arith) ∙ sym (get_or_past f i 0 (omega arith));
    }

module _ (K : Arithmetic) (w : ℕ) (t b : List ℕ) (s n : ℕ) (f p t' : List ℕ) (start last c : ℕ) (lt : length t ≡ 16 * w) (lb : length b ≡ 16 * w) (lp : length p ≡ 16 * w) (lt' : length t' ≡ 16 * w) (pos : 0 < n) (within : s + n ≤ 16) (sized : SizedX K w b n) (start_is : start ≡ w * s) (last_is : last ≡ w * (n - 1)) (one : c ≡ K.one) (L : Lessened K t t' start c p (last + w)) where
  whole : last + w ≡ w * n
  whole =
      let a : w * suc (n - 1) ≡ w * (n - 1) + w = mul-suc w (n - 1) in
      let e : suc (n - 1) ≡ n = omega arith in
      let b : w * suc (n - 1) ≡ w * n = ap (λ k. w * k) e in
      omega arith

  taken_inside : Laws K → Inside K t → Inside K t'
  taken_inside laws h i l = go (cases_lt i start) (cases_lt i (start + (last + w)))
    where
      go : (i < start) ⊎ (start ≤ i) → (i < start + (last + w)) ⊎ (start + (last + w) ≤ i) → K.element (get_or t' i 0) ≡ true
      go (inl under) y = ap K.element (L.below i under) ∙ h i (omega arith)
      go (inr le) (inl near) = let e : start + (i - start) ≡ i = omega arith in ap (λ j. K.element (get_or t' j 0)) (sym e) ∙ ap K.element (L.inside (i - start) (omega arith)) ∙ laws.difference_in _ _
      go (inr le) (inr far) = ap K.element (L.above i far) ∙ h i (omega arith)

  module _ (laws : Laws K) (ht : Inside K t) (hp : Inside K p) (is : (k : ℕ) → polynomial laws (cut_row w p k) ≡ (polynomials laws).mul (polynomial laws f) ((polynomial_xy laws w b).0 k)) where
    open polynomials laws use {zero as O, add as ◌⊕◌, neg as ⊖◌, mul as ◌⊙◌}

    infixl 60 ◌⊕◌
    infixl 70 ◌⊙◌
    infix 80 ⊖◌
    under : (k : ℕ) → k < s → (polynomial_xy laws w t').0 k ≡ (polynomial_xy laws w t).0 k
    under k l = of_rows laws w t' k ∙ kept_row laws w t t' k (lt' ∙ sym lt) (λ j m. L.below (w * k + j) (below j m)) ∙ sym (of_rows laws w t k)
      where
        below : (j : ℕ) → j < w → w * k + j < start
        below j m =
            let a : w * suc k ≡ w * k + w = mul-suc w k in
            let b : w * suc k ≤ w * s = rows_fit w (suc k) s l in
            omega arith

    nothing : (a g z : Poly (elements laws)) → z ≡ O → a ≡ a ⊕ ⊖ (g ⊙ z)
    nothing a g z e = sym (ap (λ x. a ⊕ ⊖ x) (ap (λ x. g ⊙ x) e ∙ mul_zero (polynomials laws) g) ∙ ap (λ x. a ⊕ x) (neg_zero (polynomials laws)) ∙ add_zero (polynomials laws) a)

    over : (k : ℕ) → (polynomial_xy laws w t').0 (s + k) ≡ (polynomial_xy laws w t).0 (s + k) ⊕ ⊖ (polynomial laws f ⊙ (polynomial_xy laws w b).0 k)
    over k = go (cases_lt k n) (cases_lt k 16)
      where
        place : w * (s + k) ≡ w * s + w * k
        place = mul-add w s k

        go : (k < n) ⊎ (n ≤ k) → (k < 16) ⊎ (16 ≤ k) → (polynomial_xy laws w t').0 (s + k) ≡ (polynomial_xy laws w t).0 (s + k) ⊕ ⊖ (polynomial laws f ⊙ (polynomial_xy laws w b).0 k)
        go (inl l) y =
            let once : w * suc (s + k) ≡ w * (s + k) + w = mul-suc w (s + k) in
            let fit : w * suc (s + k) ≤ w * 16 = rows_fit w (suc (s + k)) 16 (omega arith) in
            let once' : w * suc k ≡ w * k + w = mul-suc w k in
            let fit' : w * suc k ≤ w * n = rows_fit w (suc k) n l in
            let d : w * n ≤ w * 16 = rows_fit w n 16 (omega arith) in
            let turn : w * 16 ≡ 16 * w = mul_comm w 16 in
            of_rows laws w t' (s + k)
            ∙ less_row laws w (cut_row w t (s + k)) (cut_row w t' (s + k)) (cut_row w p k) c one (cut_row_length w t (s + k) (omega arith)) (cut_row_length w t' (s + k) (omega arith)) (cut_row_length w p k (omega arith)) (row_inside K w t (s + k) ht) (row_inside K w p k hp) (λ j m. code j m (omega arith))
            ∙ ap (λ q. polynomial laws (cut_row w t (s + k)) ⊕ ⊖ q) (is k)
            ∙ ap (λ q. q ⊕ ⊖ (polynomial laws f ⊙ (polynomial_xy laws w b).0 k)) (sym (of_rows laws w t (s + k)))
          where
            code : (j : ℕ) → j < w → w * k + w ≤ w * n → get_or (cut_row w t' (s + k)) j 0 ≡ K.difference (get_or (cut_row w t (s + k)) j 0) (K.product c (get_or (cut_row w p k) j 0))
            code j m le =
                let e : start + (w * k + j) ≡ w * (s + k) + j = omega arith in
                let z = whole in
                cut_row_code w t' (s + k) j m ∙ ap (λ i. get_or t' i 0) (sym e) ∙ L.inside (w * k + j) (omega arith)
                ∙ ap (λ i. K.difference (get_or t i 0) (K.product c (get_or p (w * k + j) 0))) e
                ∙ ap (λ x. K.difference x (K.product c (get_or p (w * k + j) 0))) (sym (cut_row_code w t (s + k) j m))
                ∙ ap (λ x. K.difference (get_or (cut_row w t (s + k)) j 0) (K.product c x)) (sym (cut_row_code w p k j m))
        go (inr far) y = of_rows laws w t' (s + k) ∙ kept_row laws w t t' (s + k) (lt' ∙ sym lt) (λ j m. L.above (w * (s + k) + j) (above j)) ∙ sym (of_rows laws w t (s + k)) ∙ nothing _ (polynomial laws f) _ (none y)
          where
            above : (j : ℕ) → start + (last + w) ≤ w * (s + k) + j
            above j =
                let z = whole in
                let a : w * n ≤ w * k = rows_fit w n k far in
                omega arith

            none : (k < 16) ⊎ (16 ≤ k) → (polynomial_xy laws w b).0 k ≡ O
            none (inl near) = of_rows laws w b k ∙ cleared laws (cut_row w b k) (sized.zeros k far near)
            none (inr past) = of_past laws w b k lb past

    less_multiple : LessMultiple laws w t b s (polynomial laws f) t'
    less_multiple = record { under = under; over = over }

  pub taken : Laws K → ManyTimes K w b f p (Ok tt) → Taking K w t b s f t' (Ok tt)
  taken laws u ht hb hf = let told = u hb hf in (taken_inside laws ht, λ lw. less_multiple lw ht told.0 (λ k. sym (of_rows lw w p k) ∙ ap (λ (A : Poly (polynomials lw)). A.0 k) (told.1 lw) ∙ coef_scale (polynomials lw) (poly_discrete (elements lw) (element_discrete K)) (polynomial lw f) (polynomial_xy lw w b) k))

pub not_taken : (K : Arithmetic) (w : ℕ) (t b : List ℕ) (s : ℕ) (f p : List ℕ) (e : NoRoom) → ManyTimes K w b f p (Err e) → Taking K w t b s f t (Err e)
not_taken K w t b s f p e u = (refl, λ hb hf lw. let n = (u hb hf).1 lw in record { at = n.at; factor = n.by; row = n.row; over = n.over })
