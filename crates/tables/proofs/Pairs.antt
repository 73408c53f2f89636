-- Points beside the rows of 16 codes at them, as a loop over both takes them.
use Rattle.std.proofs.Common.{◌≡◌, ℕ, ◌+◌, ◌*◌, ◌<◌, ◌≤◌, List, ◌∷◌, ◌++◌, length, get_or, take, drop, sym, ap, ◌∙◌, arith, length-drop, take_at, drop_at, drop-drop}
use Rattle.std.proofs.lemmas.List.{drop_more}
use Rattle.polynomials.specs.Rows.{cut_row}

-- the points and the codes that are left after k pairs, where the next row has as many codes as `size` says
pub record Left (ps vs points rows : List ℕ) (size k : ℕ) : Type 0 where
  pub within : k ≤ length ps
  pub points_left : points ≡ drop k ps
  pub rows_left : rows ≡ drop (16 * k) vs
  pub sixteen : size ≡ 16

module _ (ps vs points rows : List ℕ) (size k : ℕ) (h : Left ps vs points rows size k) where
  -- the next pair
  pub left_next : (x : ℕ) (points' : List ℕ) → points ≡ x ∷ points' → (k < length ps) × (x ≡ get_or ps k 0) × (points' ≡ drop (k + 1) ps)
  left_next x points' e =
      let a : drop k ps ≡ x ∷ points' = sym h.points_left ∙ e in
      let lt : k < length ps = omega (arith, ap length a, length-drop k ps) in
      let b = drop_more ps k 0 lt in
      (lt, cc, cc)

  pub left_row : (y rows' : List ℕ) → rows ≡ y ++ rows' → length y ≡ size → (y ≡ cut_row 16 vs k) × (rows' ≡ drop (16 * (k + 1)) vs)
  left_row y rows' e l =
      let a : drop (16 * k) vs ≡ y ++ rows' = sym h.rows_left ∙ e in
      let n : 16 * k + 16 ≡ 16 * (k + 1) = omega arith in (
        sym (ap (take 16) a ∙ take_at y rows' 16 (l ∙ h.sixteen)),
        sym (ap (λ i. drop i vs) (sym n) ∙ sym (drop-drop 16 (16 * k) vs) ∙ ap (drop 16) a ∙ drop_at y rows' 16 (l ∙ h.sixteen)),
      )

  pub left_none : length points ≡ 0 → k ≡ length ps
  left_none e = let w = h.within in omega (arith, ap length h.points_left, length-drop k ps)

  pub left_short : length vs ≡ 16 * length ps → length rows < size → k ≡ length ps
  left_short each lt = let w = h.within in let s = h.sixteen in omega (arith, ap length h.rows_left, length-drop (16 * k) vs)
