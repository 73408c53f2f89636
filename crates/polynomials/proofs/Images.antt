-- The image of a table, from the values of its rows.
use Rattle.std.proofs.Common.{◌≡◌, ℕ, ◌+◌, ◌*◌, ◌<◌, ◌≤◌, ◌≢◌, ◌⊎◌, List, ◌++◌, length, get_or, take, drop, set, sym, ap, ◌∙◌, subst, inl, inr, mul-le-mul_left, arith, length-append, length-drop, get_or-set_other, get_or-set_same, below_more, length-take, get_or-drop, get_or-take}
use mathlib.Core.Path.{fun_ext}
use Rattle.std.proofs.Math.Seq.{take-nil, take_at, drop_at}
use Rattle.std.proofs.lemmas.List.{drop_all, drop-drop}
use Rattle.std.proofs.lemmas.Bool.{cases_lt}
use Rattle.coefficients.specs.Arithmetic.{Arithmetic, Laws}
use Rattle.algebra.specs.Polynomial.{poly_discrete, make_is, same, at, evaluate}
use Rattle.algebra.specs.Change.{image, of_change}
use Rattle.polynomials.specs.Elements.{element_same, element_discrete, elements, read, coefficients, past_end, polynomial, polynomials, empty_row, polynomial_xy}
use Rattle.polynomials.specs.Rows.{Inside, cut_row, row_of}
use Rattle.polynomials.specs.Relations.{Value}
use Rattle.polynomials.specs.Steps.{Valued, Imaged}
use Rattle.polynomials.proofs.Meaning.{of_polynomial, code_at}

-- the rows of a table of elements are rows of elements
pub row_inside : (K : Arithmetic) (t : List ℕ) (i : ℕ) → length t ≡ 256 → i < 16 → Inside K t → Inside K (row_of t i)
row_inside K t i e lt h j l =
    let long : length (row_of t i) ≤ 16 = rw (length-take 16 (drop (16 * i) t)) (omega arith) in
    let below : j < 16 = omega arith in
    ap K.element (get_or-take 16 (drop (16 * i) t) j 0 below ∙ get_or-drop (16 * i) t j 0) ∙ h (16 * i + j) (omega arith)

-- what is left of a table whose first i rows were taken one after the other, where there is one more row
pub row_turn : (t rest row rest' : List ℕ) (i : ℕ) → length t ≡ 256 → rest ≡ drop (16 * i) t → rest ≡ row ++ rest' → length row ≡ 16 → (i < 16) × (row_of t i ≡ row) × (rest' ≡ drop (16 * (i + 1)) t)
row_turn t rest row rest' i long e s l =
    let n : 16 * i + 16 ≡ 16 * (i + 1) = omega arith in (
      omega (arith, ap length (sym s ∙ e), length-append row rest', length-drop (16 * i) t),
      ap (take 16) (sym e ∙ s) ∙ take_at row rest' 16 l,
      sym (drop_at row rest' 16 l) ∙ ap (drop 16) (sym s ∙ e) ∙ drop-drop 16 (16 * i) t ∙ ap (λ k. drop k t) n,
    )

-- .. and its value is the next code of the image
pub values_more : (K : Arithmetic) (t l : List ℕ) (α i v : ℕ) → i < length l → Valued K (row_of t i) α v → ((k : ℕ) → k < i → Valued K (row_of t k) α (get_or l k 0)) → (k : ℕ) → k < i + 1 → Valued K (row_of t k) α (get_or (set l i v) k 0)
values_more K t l α i v lt told so_far =
    below_more (λ k. Valued K (row_of t k) α (get_or (set l i v) k 0)) i
    (λ k h. let other : k ≢ i = omega arith in subst (λ (n : ℕ). Valued K (row_of t k) α n) (sym (get_or-set_other l i k v 0 other)) (so_far k h))
    (subst (λ (n : ℕ). Valued K (row_of t i) α n) (sym (get_or-set_same l i v 0 lt)) told)

-- 16 rows of any width
module _ {K : Arithmetic} (laws : Laws K) (w : ℕ) (t : List ℕ) (α : ℕ) (l : List ℕ) (long : length t ≡ w * 16) (short : length l ≡ 16) (inside : Inside K l) (values : (i : ℕ) → i < 16 → Value laws (cut_row w t i) α (get_or l i 0)) where
  image_at : (k : ℕ) → (k < 16) ⊎ (16 ≤ k) → at (elements laws) (element_discrete K) (read laws α) (polynomial laws (cut_row w t k)) ≡ coefficients laws l k
  unfolding evaluate
  image_at k (inl lt) = element_same K (values k lt ∙ sym (code_at laws l k inside (omega arith)))
  image_at k (inr le) =
      let past = mul-le-mul_left w le in
      ap (λ r. at (elements laws) (element_discrete K) (read laws α) (polynomial laws (take w r))) (drop_all (w * k) t (omega arith))
      ∙ ap (λ r. at (elements laws) (element_discrete K) (read laws α) (polynomial laws r)) (take-nil w)
      ∙ ap (at (elements laws) (element_discrete K) (read laws α)) (empty_row laws)
      ∙ (evaluate (elements laws) (element_discrete K) (read laws α)).map_zero
      ∙ sym (past_end laws l k (omega arith))

  pub image_is : (image (elements laws) (element_discrete K) (read laws α)).map (polynomial_xy laws w t) ≡ polynomial laws l
  unfolding image evaluate polynomial_xy
  image_is =
      same (elements laws) (element_discrete K)
      (of_change (polynomials laws) (elements laws) (evaluate (elements laws) (element_discrete K) (read laws α)) (poly_discrete (elements laws) (element_discrete K)) (element_discrete K) (polynomial_xy laws w t)
      ∙ ap (λ f k. at (elements laws) (element_discrete K) (read laws α) (f k)) (make_is (polynomials laws) (poly_discrete (elements laws) (element_discrete K)) _ _ _)
      ∙ fun_ext (λ k. image_at k (cases_lt k 16))
      ∙ sym (of_polynomial laws l))

pub imaged : {K : Arithmetic} → Laws K → (t : List ℕ) (α : ℕ) (l : List ℕ) → length l ≡ 16 → ((i : ℕ) → i < 16 → Valued K (row_of t i) α (get_or l i 0)) → Imaged K t α l
imaged {K} laws t α l short values long ht hα =
    let inside : Inside K l = λ i lt. (values i (omega arith) (row_inside K t i long (omega arith) ht) hα).0 in
    (inside, λ lw. image_is lw 16 t α l long short inside (λ i lt. (values i lt (row_inside K t i long lt ht) hα).1 lw))
