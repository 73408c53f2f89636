-- Rows of codes that stand one after the other, 16 rows of 16 in a table, and the trimmed rows that they hold.
use Rattle.std.specs.Prelude.{ℕ, zero, suc, ◌≤◌, List, [], ◌∷◌, ◌++◌, length, take, drop}
use Rattle.coefficients.specs.Arithmetic.{Arithmetic}
use Rattle.values.specs.Ops.{Ops, codes, lists, put, trim}
use Rattle.values.specs.Values.{width}

-- at most 16 rows of at most 16 codes
pub record Fits (rows : List (List ℕ)) : Type 0 where
  pub rows_fit : length rows ≤ 16
  pub codes_fit : width rows ≤ 16

module _ (K : Arithmetic) where
  abbrev O : Ops ℕ
  O = codes K

  -- the first n rows of 16 codes each
  abbrev pub cut : ℕ → List ℕ → List (List ℕ)
  cut zero t = []
  cut (suc n) t = put (lists O) (trim O (take 16 t)) (cut n (drop 16 t))

  -- the rows of a table
  abbrev pub rows : List ℕ → List (List ℕ)
  rows t = cut 16 t

  -- the first n rows of w codes each, without the zeros at their ends
  abbrev pub split : (w n : ℕ) → List ℕ → List (List ℕ)
  split w zero t = []
  split w (suc n) t = trim O (take w t) ∷ split w n (drop w t)

  -- .. and without the rows of zeros at the end
  abbrev pub trimmed_rows : (w n : ℕ) → List ℕ → List (List ℕ)
  trimmed_rows w n t = trim (lists O) (split w n t)

  -- 16 rows of w codes
  abbrev pub rows_of : (w : ℕ) → List ℕ → List (List ℕ)
  rows_of w t = trimmed_rows w 16 t

  -- the first n codes of a row, with zeros at its end
  abbrev pub pad : ℕ → List ℕ → List ℕ
  pad zero xs = []
  pad (suc n) [] = K.zero ∷ pad n []
  pad (suc n) (x ∷ xs) = x ∷ pad n xs

  -- the first n rows, one behind the other, with rows of zeros at the end
  abbrev pub spread : ℕ → List (List ℕ) → List ℕ
  spread zero rs = []
  spread (suc n) [] = pad 16 [] ++ spread n []
  spread (suc n) (r ∷ rs) = pad 16 r ++ spread n rs

  -- the table of some rows
  abbrev pub table_of : List (List ℕ) → List ℕ
  table_of rs = spread 16 rs
