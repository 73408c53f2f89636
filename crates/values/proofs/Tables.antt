-- Tables and rows undo each other, and the rows of a table mean what the table means.
use Rattle.std.proofs.Common.{◌≡◌, ℕ, zero, suc, ◌+◌, ◌*◌, ◌<◌, ◌≤◌, Bool, true, false, eqb, ◌⊎◌, List, [], ◌∷◌, ◌++◌, length, take, drop, sym, refl, ap, ◌∙◌, subst, ap₂, inl, inr, mul-le-mul_left, mul-zero, mul-suc, arith, length-append, length-drop, take-append-drop, length-take, drop-drop}
use mathlib.Core.Path.{fun_ext}
use lib.Seq.{take-nil, take-append_seam, drop-append_seam}
use Rattle.std.proofs.lemmas.List.{drop_all}
use Rattle.std.proofs.lemmas.Bool.{eqb-true, eqb-false, cases_lt}
use Rattle.coefficients.specs.Arithmetic.{Arithmetic, Laws}
use Rattle.algebra.specs.Ring.{Ring}
use Rattle.algebra.specs.Lists.{All}
use Rattle.algebra.specs.Polynomial.{Poly, poly_discrete, make_is, same}
use Rattle.algebra.specs.Change.{Poly₂}
use Rattle.polynomials.specs.Rows.{Inside, cut_row}
use Rattle.polynomials.specs.Elements.{Element, element_discrete, elements, read, polynomial, polynomials, empty_row, table, polynomial_xy}
use Rattle.values.specs.Ops.{Ops, codes, lists, put, trim}
use Rattle.values.specs.Values.{width}
use Rattle.values.specs.Tables.{Fits, split, cut, trimmed_rows, rows_of, rows, pad, spread, table_of}
use Rattle.values.specs.Meaning.{In, TrimmedY, TrimmedYx, past_rows, polynomial₂}
use Rattle.values.specs.Relations.{Unique}
use Rattle.values.specs.RowTheorems.{Sixteen}
use Rattle.values.proofs.Grow.{grow, grow_first, grow_rest}
use Rattle.values.proofs.Lists.{Reading, put_is, put_length, put_same, trim_in, trim_is, trim_length, each_in, unique}
use Rattle.values.proofs.Elements.{reading_y, reading_yx, of_polynomial₂, inside_all, all_inside}

module _ {A : Type 0} (P : A → Type 0) where
  all_take : (n : ℕ) (t : List A) → All P t → All P (take n t)
  all_take zero t h = tt
  all_take (suc n) [] h = tt
  all_take (suc n) (x ∷ t) h = (h.0, all_take n t h.1)

  all_drop : (n : ℕ) (t : List A) → All P t → All P (drop n t)
  all_drop zero t h = h
  all_drop (suc n) [] h = tt
  all_drop (suc n) (x ∷ t) h = all_drop n t h.1

  all_append : (s t : List A) → All P s → All P t → All P (s ++ t)
  all_append [] t h k = k
  all_append (x ∷ s) t h k = (h.0, all_append s t h.1 k)

-- the rows behind the first
pub next_row : (w : ℕ) (t : List ℕ) (i : ℕ) → cut_row w (drop w t) i ≡ cut_row w t (suc i)
next_row w t i =
    let once : w * suc i ≡ w * i + w = mul-suc w i in
    let e : w + w * i ≡ w * suc i = omega arith in
    ap (take w) (drop-drop (w * i) w t ∙ ap (λ k. drop k t) e)

module _ (K : Arithmetic) where
  abbrev O : Ops ℕ
  O = codes K

  -- one row
  pad_length : (n : ℕ) (xs : List ℕ) → length (pad K n xs) ≡ n
  pad_length zero xs = refl
  pad_length (suc n) [] = ap suc (pad_length n [])
  pad_length (suc n) (x ∷ xs) = ap suc (pad_length n xs)

  pad_put : (n x : ℕ) (xs : List ℕ) → pad K (suc n) (put O x xs) ≡ x ∷ pad K n xs
  pad_put n x (y ∷ ys) = refl
  pad_put n x [] = go (eqb x K.zero) refl
    where
      go : (b : Bool) → eqb x K.zero ≡ b → pad K (suc n) (elim b as (λ z. List ℕ) [ true ↦ [] | false ↦ x ∷ [] ]) ≡ x ∷ pad K n []
      go true e = ap (λ z. z ∷ pad K n []) (sym (eqb-true x _ e))
      go false e = refl

  pad_trim : (n : ℕ) (xs : List ℕ) → length xs ≡ n → pad K n (trim O xs) ≡ xs
  pad_trim zero [] e = refl
  pad_trim (suc n) [] e = absurd (omega arith)
  pad_trim zero (x ∷ xs) e = absurd (omega arith)
  pad_trim (suc n) (x ∷ xs) e = pad_put n x (trim O xs) ∙ ap (λ l. x ∷ l) (pad_trim n xs (omega arith))

  trim_zeros : (n : ℕ) → trim O (pad K n []) ≡ []
  trim_zeros zero = refl
  trim_zeros (suc n) = ap (put O K.zero) (trim_zeros n) ∙ go (eqb K.zero K.zero) refl
    where
      go : (b : Bool) → eqb K.zero K.zero ≡ b → elim b as (λ z. List ℕ) [ true ↦ [] | false ↦ K.zero ∷ [] ] ≡ []
      go true e = refl
      go false e = absurd (eqb-false _ _ e refl)

  trim_pad : (n : ℕ) (xs : List ℕ) → TrimmedY K xs → length xs ≤ n → trim O (pad K n xs) ≡ xs
  trim_pad n [] h l = trim_zeros n
  trim_pad zero (x ∷ xs) h l = absurd (omega arith)
  trim_pad (suc n) (x ∷ xs) h l = ap (put O x) (trim_pad n xs h.1 (omega arith)) ∙ put_same O x xs h.2

  -- all rows
  spread_put : (n : ℕ) (r : List ℕ) (rs : List (List ℕ)) → spread K (suc n) (put (lists O) r rs) ≡ pad K 16 r ++ spread K n rs
  spread_put n r (s ∷ rs) = refl
  spread_put n [] [] = refl
  spread_put n (x ∷ r) [] = refl

  spread_cut : (n : ℕ) (t : List ℕ) → length t ≡ 16 * n → spread K n (trimmed_rows K 16 n t) ≡ t
  spread_cut zero [] e = refl
  spread_cut zero (x ∷ t) e = absurd (omega arith)
  spread_cut (suc n) t e =
      let first : length (take 16 t) ≡ 16 = rw (length-take 16 t) (omega arith) in
      let later : length (drop 16 t) ≡ 16 * n = rw (length-drop 16 t) (omega arith) in
      spread_put n (trim O (take 16 t)) (trimmed_rows K 16 n (drop 16 t)) ∙ ap₂ ◌++◌ (pad_trim 16 (take 16 t) first) (spread_cut n (drop 16 t) later) ∙ take-append-drop 16 t

  cut_append : (n : ℕ) (r t : List ℕ) → length r ≡ 16 → trimmed_rows K 16 (suc n) (r ++ t) ≡ put (lists O) (trim O r) (trimmed_rows K 16 n t)
  cut_append n r t e = ap₂ (λ a b. put (lists O) (trim O a) (trimmed_rows K 16 n b)) (ap (λ k. take k (r ++ t)) (sym e) ∙ take-append_seam r t) (ap (λ k. drop k (r ++ t)) (sym e) ∙ drop-append_seam r t)

  cut_spread : (n : ℕ) (a : List (List ℕ)) → TrimmedYx K a → length a ≤ n → width a ≤ 16 → trimmed_rows K 16 n (spread K n a) ≡ a
  cut_spread zero [] h l w = refl
  cut_spread zero (r ∷ a) h l w = absurd (omega arith)
  cut_spread (suc n) [] h l w = cut_append n (pad K 16 []) (spread K n []) (pad_length 16 []) ∙ ap₂ (put (lists O)) (trim_zeros 16) (cut_spread n [] tt (omega arith) w)
  cut_spread (suc n) (r ∷ a) h l w = cut_append n (pad K 16 r) (spread K n a) (pad_length 16 r) ∙ ap₂ (put (lists O)) (trim_pad 16 r h.0 (omega arith)) (cut_spread n a h.1 (omega arith) (omega arith)) ∙ put_same (lists O) r a h.2

  spread_length : (n : ℕ) (a : List (List ℕ)) → length (spread K n a) ≡ 16 * n
  spread_length zero a = refl
  spread_length (suc n) [] = let i = spread_length n [] in let p = pad_length 16 [] in let s = length-append (pad K 16 []) (spread K n []) in omega arith
  spread_length (suc n) (r ∷ a) = let i = spread_length n a in let p = pad_length 16 r in let s = length-append (pad K 16 r) (spread K n a) in omega arith

  cut_length : (w n : ℕ) (t : List ℕ) → length (trimmed_rows K w n t) ≤ n
  cut_length w zero t = omega arith
  cut_length w (suc n) t = let i = cut_length w n (drop w t) in let l = put_length (lists O) (trim O (take w t)) (trimmed_rows K w n (drop w t)) in omega arith

  put_width : (r : List ℕ) (rs : List (List ℕ)) → length r ≤ 16 → width rs ≤ 16 → width (put (lists O) r rs) ≤ 16
  put_width r (s ∷ rs) l w = omega arith
  put_width [] [] l w = omega arith
  put_width (x ∷ r) [] l w = omega arith

  cut_width : (n : ℕ) (t : List ℕ) → width (trimmed_rows K 16 n t) ≤ 16
  cut_width zero t = omega arith
  cut_width (suc n) t =
      let i = trim_length O (take 16 t) in
      let l = length-take 16 t in
      put_width (trim O (take 16 t)) (trimmed_rows K 16 n (drop 16 t)) (omega arith) (cut_width n (drop 16 t))

  -- rows of 16 codes, cut one by one
  cut_16 : (n : ℕ) (t : List ℕ) → trimmed_rows K 16 n t ≡ cut K n t
  cut_16 zero t = refl
  cut_16 (suc n) t = ap (put (lists O) (trim O (take 16 t))) (cut_16 n (drop 16 t))

  pub rows_by_16 : (t : List ℕ) → rows_of K 16 t ≡ rows K t
  rows_by_16 t = cut_16 16 t

  -- the statements
  pub rows_fit : (t : List ℕ) → Fits (rows K t)
  rows_fit t = subst Fits (rows_by_16 t) (record { rows_fit = cut_length 16 16 t; codes_fit = cut_width 16 t })

  pub rows_of_table : (a : List (List ℕ)) → TrimmedYx K a → Fits a → rows K (table_of K a) ≡ a
  rows_of_table a h f = sym (rows_by_16 (table_of K a)) ∙ cut_spread 16 a h f.rows_fit f.codes_fit

  pub table_of_rows : (t : List ℕ) → length t ≡ 256 → table_of K (rows K t) ≡ t
  table_of_rows t e = ap (table_of K) (sym (rows_by_16 t)) ∙ spread_cut 16 t e

module _ {K : Arithmetic} (laws : Laws K) where
  abbrev R : Ring (Element K)
  R = elements laws

  abbrev eq₂ : (p q : Poly R) → Dec (p ≡ q)
  eq₂ = poly_discrete R (element_discrete K)

  abbrev L : Reading (codes K) R (element_discrete K) (In K) (read laws) (polynomial laws)
  L = reading_y laws

  abbrev L₂ : Reading (lists (codes K)) (polynomials laws) eq₂ (TrimmedY K) (polynomial laws) (polynomial₂ laws)
  L₂ = reading_yx laws

  pad_in : (n : ℕ) (xs : List ℕ) → All (In K) xs → All (In K) (pad K n xs)
  pad_in zero xs h = tt
  pad_in (suc n) [] h = (laws.zero_in, pad_in n [] tt)
  pad_in (suc n) (x ∷ xs) h = (h.0, pad_in n xs h.1)

  spread_in : (n : ℕ) (a : List (List ℕ)) → TrimmedYx K a → All (In K) (spread K n a)
  spread_in zero a h = tt
  spread_in (suc n) [] h = all_append (In K) (pad K 16 []) (spread K n []) (pad_in 16 [] tt) (spread_in n [] tt)
  spread_in (suc n) (r ∷ a) h = all_append (In K) (pad K 16 r) (spread K n a) (pad_in 16 r (each_in L r h.0)) (spread_in n a h.1)

  pub table_in : (a : List (List ℕ)) → TrimmedYx K a → (length (table_of K a) ≡ 256) × Inside K (table_of K a)
  table_in a h = (spread_length K 16 a, all_inside K (table_of K a) (spread_in 16 a h))

  row_in : (w : ℕ) (t : List ℕ) → All (In K) t → TrimmedY K (trim (codes K) (take w t))
  row_in w t h = trim_in L (take w t) (all_take (In K) w t h)

  pub split_in : (w n : ℕ) (t : List ℕ) → All (In K) t → All (TrimmedY K) (split K w n t)
  split_in w zero t h = tt
  split_in w (suc n) t h = (row_in w t h, split_in w n (drop w t) (all_drop (In K) w t h))

  cut_in : (w n : ℕ) (t : List ℕ) → All (In K) t → TrimmedYx K (trimmed_rows K w n t)
  cut_in w n t h = trim_in L₂ (split K w n t) (split_in w n t h)

  -- a coefficient in x is a row
  coefficient_is : (w n : ℕ) (t : List ℕ) → All (In K) t → (i : ℕ) → i < n → (polynomial₂ laws (trimmed_rows K w n t)).0 i ≡ polynomial laws (cut_row w t i)
  coefficient_is w zero t h i l = absurd (omega arith)
  coefficient_is w (suc n) t h i l = ap (λ (P : Poly₂ R (element_discrete K)). P.0 i) (put_is L₂ _ (trimmed_rows K w n (drop w t)) (row_in w t h)) ∙ go (coefficient_is w n (drop w t) (all_drop (In K) w t h)) i l
    where
      go : ((i : ℕ) → i < n → (polynomial₂ laws (trimmed_rows K w n (drop w t))).0 i ≡ polynomial laws (cut_row w (drop w t) i)) → (i : ℕ) → i < suc n → (grow (polynomials laws) eq₂ (polynomial laws (trim (codes K) (take w t))) (polynomial₂ laws (trimmed_rows K w n (drop w t)))).0 i ≡ polynomial laws (cut_row w t i)
      go ih zero l = grow_first (polynomials laws) eq₂ _ _ ∙ trim_is L (take w t) (all_take (In K) w t h) ∙ ap (λ k. polynomial laws (take w (drop k t))) (sym (mul-zero w))
      go ih (suc i) l = grow_rest (polynomials laws) eq₂ _ _ i ∙ ih i (omega arith) ∙ ap (polynomial laws) (next_row w t i)

  rows_mean : (w : ℕ) (t : List ℕ) → length t ≡ 16 * w → All (In K) t → polynomial₂ laws (rows_of K w t) ≡ polynomial_xy laws w t
  unfolding polynomial_xy
  rows_mean w t e h = same (polynomials laws) eq₂ (fun_ext (λ i. go i (cases_lt i 16)) ∙ sym (make_is (polynomials laws) eq₂ _ _ _))
    where
      go : (i : ℕ) → (i < 16) ⊎ (16 ≤ i) → (polynomial₂ laws (rows_of K w t)).0 i ≡ polynomial laws (cut_row w t i)
      go i (inl lt) = coefficient_is w 16 t h i lt
      go i (inr le) =
          let past = mul-le-mul_left w le in
          let l = cut_length K w 16 t in
          ap (λ f. f i) (of_polynomial₂ laws (rows_of K w t)) ∙ past_rows laws (rows_of K w t) i (omega arith)
          ∙ sym (ap (λ r. polynomial laws (take w r)) (drop_all (w * i) t (omega arith)) ∙ ap (polynomial laws) (take-nil w) ∙ empty_row laws)

  pub rows_of_are : (w : ℕ) (t : List ℕ) → Sixteen laws w t → Unique (TrimmedYx K) (λ a. polynomial₂ laws a ≡ polynomial_xy laws w t) (rows_of K w t)
  rows_of_are w t (e, h) = let all = inside_all K t h in unique L₂ (rows_of K w t) (cut_in w 16 t all) (polynomial_xy laws w t) (rows_mean w t e all)

  pub rows_are : (t : List ℕ) → length t ≡ 256 → Inside K t → Unique (TrimmedYx K) (λ a. polynomial₂ laws a ≡ table laws t) (rows K t)
  rows_are t e h = subst (Unique (TrimmedYx K) (λ a. polynomial₂ laws a ≡ table laws t)) (rows_by_16 K t) (rows_of_are 16 t (e, h))

  pub table_is : (a : List (List ℕ)) → TrimmedYx K a → Fits a → table laws (table_of K a) ≡ polynomial₂ laws a
  table_is a h f =
      let (e, k) = table_in a h in
      sym (rows_mean 16 (table_of K a) e (inside_all K (table_of K a) k)) ∙ ap (polynomial₂ laws) (rows_by_16 K (table_of K a) ∙ rows_of_table K a h f)
