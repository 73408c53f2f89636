-- Rows of one width that stand one after the other: their codes, and one of them replaced.
use borrow.Rule.Slice.PartMut.{put_mid}
use Rattle.std.proofs.Common.{◌≡◌, ℕ, ◌+◌, ◌-◌, ◌*◌, ◌/◌, ◌<◌, ◌≤◌, ◌≢◌, ◌⊎◌, List, length, get_or, take, drop, sym, ap, ◌∙◌, subst, inl, inr, arith, length-drop, length-take, get_or-drop, get_or-take}
use Rattle.std.proofs.lemmas.List.{drop-take, length-take-le}
use Rattle.std.proofs.lemmas.Slice.{take-put_mid_below, drop-put_mid, between-put_mid}
use Rattle.std.proofs.lemmas.Bool.{cases_lt}
use Rattle.coefficients.specs.Arithmetic.{Arithmetic}
use Rattle.polynomials.specs.Rows.{Inside, cut_row}

pub cut_row_length : (w : ℕ) (t : List ℕ) (i : ℕ) → w * i + w ≤ length t → length (cut_row w t i) ≡ w
cut_row_length w t i le =
    let left = length-drop (w * i) t in
    length-take-le w (drop (w * i) t) (omega arith)

pub cut_row_code : (w : ℕ) (t : List ℕ) (i j : ℕ) → j < w → get_or (cut_row w t i) j 0 ≡ get_or t (w * i + j) 0
cut_row_code w t i j lt = get_or-take w (drop (w * i) t) j 0 lt ∙ get_or-drop (w * i) t j 0

pub cut_row_inside : (K : Arithmetic) (w : ℕ) (t : List ℕ) (i : ℕ) → Inside K t → Inside K (cut_row w t i)
cut_row_inside K w t i h j lt =
    let shorter = length-take w (drop (w * i) t) in
    let left = length-drop (w * i) t in
    ap K.element (cut_row_code w t i j (omega arith)) ∙ h (w * i + j) (omega arith)

pub cut_rows_inside : (K : Arithmetic) (t : List ℕ) → length t ≡ 512 → ((i : ℕ) → i < 16 → Inside K (cut_row 32 t i)) → Inside K t
cut_rows_inside K t lt h j l =
    let i : ℕ = j / 32 in
    let place : 32 * i + (j - 32 * i) ≡ j = omega arith in
    let long : length (cut_row 32 t i) ≡ 32 = cut_row_length 32 t i (omega arith) in
    ap (λ k. K.element (get_or t k 0)) (sym place) ∙ ap K.element (sym (cut_row_code 32 t i (j - 32 * i) (omega arith))) ∙ h i (omega arith) (j - 32 * i) (omega arith)

-- t with its i-th row of 32 codes replaced by r
module _ (t r : List ℕ) (i n : ℕ) (n_is : n ≡ 32) (lt : length t ≡ 512) (lr : length r ≡ 32) (within : i < 16) where
  abbrev replaced : List ℕ
  replaced = put_mid (32 * i) n t r

  pub replaced_same : cut_row 32 replaced i ≡ r
  replaced_same =
      let width : (32 * i + 32) - 32 * i ≡ 32 = omega arith in
      subst (λ (k : ℕ). take k (drop (32 * i) replaced) ≡ r) width (between-put_mid (32 * i) n t r (32 * i + 32) (omega arith) (omega arith))

  pub replaced_other : (k : ℕ) → k ≢ i → cut_row 32 replaced k ≡ cut_row 32 t k
  replaced_other k ne = go (cases_lt k i)
    where
      go : (k < i) ⊎ (i ≤ k) → cut_row 32 replaced k ≡ cut_row 32 t k
      go (inl l) = sym (drop-take (32 * k) 32 replaced) ∙ ap (drop (32 * k)) (take-put_mid_below (32 * i) n t r (32 * k + 32) (omega arith) (omega arith)) ∙ drop-take (32 * k) 32 t
      go (inr le) = ap (take 32) (drop-put_mid (32 * i) n t r (32 * k) (omega arith) (omega arith) (omega arith))
