-- All rows of a table times the reciprocal of its leading code.
use Rattle.std.proofs.Common.{◌≡◌, ℕ, suc, ◌+◌, ◌-◌, ◌*◌, ◌<◌, ◌≤◌, ◌⊎◌, List, length, get_or, drop, sym, ap, ◌∙◌, subst, inl, inr, arith, length-drop, length-take}
use mathlib.Core.Path.{fun_ext}
use Rattle.std.proofs.lemmas.Bool.{cases_lt}
use Rattle.coefficients.specs.Arithmetic.{Arithmetic, Laws}
use Rattle.algebra.specs.Ring.{mul_zero, mul_one, one_mul}
use Rattle.algebra.specs.Lead.{Monic}
use Rattle.algebra.specs.Polynomial.{Poly, poly_discrete, size, same}
use Rattle.algebra.specs.Change.{poly₂, number, number_one}
use Rattle.algebra.proofs.Degrees.{coef_scale}
use Rattle.polynomials.specs.Elements.{Element, element_same, element_discrete, elements, coefficients, past_end, polynomial, polynomials, polynomial_xy}
use Rattle.polynomials.specs.Rows.{Inside, Sized, cut_row}
use Rattle.polynomials.specs.Steps.{Inverts}
use Rattle.tables.specs.Degrees.{SizedX}
use Rattle.tables.specs.Scale.{constant, MonicOf}
use Rattle.polynomials.proofs.Meaning.{of_polynomial, code_at, code_mul, code_one, size_is}
use Rattle.polynomials.proofs.Inverse.{zero_product}
use Rattle.polynomials.proofs.Common.{scaled_sized, scaled_normal}
use Rattle.tables.proofs.CutRows.{cut_row_code}
use Rattle.tables.proofs.Sizes.{row_inside, of_rows, size_x_is, sized_zero, sized_some}

-- a row each of whose codes is c times that of another
scaled_row : {K : Arithmetic} (laws : Laws K) (c : Element K) (f f' : List ℕ) → Inside K f → Inside K f' → length f' ≡ length f → ((i : ℕ) → i < length f → get_or f' i 0 ≡ K.product c.0 (get_or f i 0)) → polynomial laws f' ≡ (polynomials laws).mul (number (elements laws) (element_discrete K) c) (polynomial laws f)
scaled_row {K} laws c f f' hf hf' len L = same (elements laws) (element_discrete K) (fun_ext λ k. ap (λ h. h k) (of_polynomial laws f') ∙ at k (cases_lt k (length f)) ∙ sym (coef_scale (elements laws) (element_discrete K) c (polynomial laws f) k))
  where
    of : (k : ℕ) → coefficients laws f k ≡ (polynomial laws f).0 k
    of k = ap (λ h. h k) (sym (of_polynomial laws f))

    at : (k : ℕ) → (k < length f) ⊎ (length f ≤ k) → coefficients laws f' k ≡ (elements laws).mul c ((polynomial laws f).0 k)
    at k (inl lt) = element_same K (code_at laws f' k hf' (omega arith) ∙ L k lt ∙ ap (K.product c.0) (sym (code_at laws f k hf lt)) ∙ sym (code_mul laws c (coefficients laws f k))) ∙ ap ((elements laws).mul c) (of k)
    at k (inr le) = past_end laws f' k (omega arith) ∙ sym (ap ((elements laws).mul c) (sym (of k) ∙ past_end laws f k le) ∙ mul_zero (elements laws) c)

module _ {K : Arithmetic} (laws : Laws K) (w : ℕ) (t t' : List ℕ) (n m c : ℕ) (long : length t ≡ 16 * w) (len : length t' ≡ length t) (pos : 0 < n) (s : SizedX K w t n) (lead : Sized K (cut_row w t (n - 1)) m) (iv : Inverts K (cut_row w t (n - 1)) m c) (L : (i : ℕ) → i < length t → get_or t' i 0 ≡ K.product c (get_or t i 0)) where
  rows_long : (k : ℕ) → length (cut_row w t' k) ≡ length (cut_row w t k)
  rows_long k =
      let a = length-take w (drop (w * k) t) in
      let b = length-drop (w * k) t in
      let a' = length-take w (drop (w * k) t') in
      let b' = length-drop (w * k) t' in
      omega arith

  rows_scaled : (k j : ℕ) → j < length (cut_row w t k) → get_or (cut_row w t' k) j 0 ≡ K.product c (get_or (cut_row w t k) j 0)
  rows_scaled k j lt =
      let a = length-take w (drop (w * k) t) in
      let b = length-drop (w * k) t in
      cut_row_code w t' k j (omega arith) ∙ L (w * k + j) (omega arith) ∙ ap (K.product c) (sym (cut_row_code w t k j (omega arith)))

  pub monic_inside : Inside K t'
  monic_inside i lt = ap K.element (L i (omega arith)) ∙ laws.product_in _ _

  module _ (h : Inside K t) where
    lead_sized : Sized K (cut_row w t' (n - 1)) m
    lead_sized = scaled_sized laws (cut_row w t (n - 1)) (cut_row w t' (n - 1)) m c (row_inside K w t (n - 1) h) lead iv (rows_long (n - 1)) (rows_scaled (n - 1))

    lead_some : m ≡ 0 → ⊥
    lead_some e = let a = iv.some in omega arith

    pub monic_sized : SizedX K w t' n
    monic_sized = record {
      within = s.within;
      zeros = λ k far near j lt. let e = rows_long k in rows_scaled k j (omega arith) ∙ ap (K.product c) (s.zeros k far near j (omega arith)) ∙ laws.product_comm _ _ ∙ zero_product laws c iv.inside;
      lead = λ some. sized_some K (cut_row w t' (n - 1)) m lead_sized lead_some;
    }

    pub monic_of : (lw : Laws K) → MonicOf lw w t t'
    monic_of lw = record {
      by = by;
      unit = ((get_or (cut_row w t (n - 1)) (m - 1) 0, iv.lead_in), element_same K (code_one lw ∙ sym iv.is ∙ laws.product_comm _ _ ∙ sym (code_mul lw by _)));
      is = same (polynomials lw) (poly_discrete (elements lw) (element_discrete K)) (fun_ext λ k. of_rows lw w t' k ∙ scaled_row lw by (cut_row w t k) (cut_row w t' k) (row_inside K w t k h) (row_inside K w t' k monic_inside) (rows_long k) (rows_scaled k) ∙ ap ((polynomials lw).mul (number (elements lw) (element_discrete K) by)) (sym (of_rows lw w t k)) ∙ sym (coef_scale (polynomials lw) (poly_discrete (elements lw) (element_discrete K)) _ _ k));
      monic = λ some. (n - 1, whole, subst (λ (p : Poly (elements lw)). Monic (elements lw) p) (sym (of_rows lw w t' (n - 1))) top);
    }
      where
        by : Element K
        by = (c, iv.inside)

        whole : size (polynomials lw) (polynomial_xy lw w t') ≡ suc (n - 1)
        whole = let e = size_x_is lw w t' n (len ∙ long) monic_sized monic_inside in omega arith

        top : Monic (elements lw) (polynomial lw (cut_row w t' (n - 1)))
        top = (scaled_normal laws (cut_row w t (n - 1)) (cut_row w t' (n - 1)) m c (row_inside K w t (n - 1) h) lead iv (rows_long (n - 1)) (rows_scaled (n - 1)) lw).normal (λ e. lead_some (sym (size_is lw (cut_row w t' (n - 1)) m (row_inside K w t' (n - 1) monic_inside) lead_sized) ∙ e))

-- zero stays
pub monic_zero : {K : Arithmetic} (laws : Laws K) (w : ℕ) (t : List ℕ) → length t ≡ 16 * w → SizedX K w t 0 → Inside K t → MonicOf laws w t t
monic_zero {K} laws w t long s h = record {
  by = (elements laws).one;
  unit = ((elements laws).one, sym (mul_one (elements laws) _));
  is = sym (ap (λ x. (poly₂ (elements laws) (element_discrete K)).mul x (polynomial_xy laws w t)) one ∙ one_mul (poly₂ (elements laws) (element_discrete K)) _);
  monic = λ some. absurd (some (size_x_is laws w t 0 long s h));
}
  where
    one : constant laws (elements laws).one ≡ (poly₂ (elements laws) (element_discrete K)).one
    one = ap (number (polynomials laws) (poly_discrete (elements laws) (element_discrete K))) (number_one (elements laws) (element_discrete K)) ∙ number_one (polynomials laws) (poly_discrete (elements laws) (element_discrete K))

-- the leading row is not zero
pub lead_positive : (K : Arithmetic) (w : ℕ) (t : List ℕ) (n m : ℕ) → 0 < n → SizedX K w t n → Sized K (cut_row w t (n - 1)) m → 0 < m
lead_positive K w t n m pos s lead = go (cases_lt 0 m)
  where
    go : (0 < m) ⊎ (m ≤ 0) → 0 < m
    go (inl lt) = lt
    go (inr le) = absurd (s.lead pos (sized_zero K (cut_row w t (n - 1)) m lead (omega arith)))
