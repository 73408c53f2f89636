-- Rows of codes: whether each is an element, how far they go, and which row is refused.
use Rattle.std.specs.Prelude.{◌≡◌, ℕ, suc, ◌-◌, ◌*◌, ◌<◌, ◌≤◌, true, false, ◌⊎◌, List, [], ◌∷◌, length, take, drop, ◌≢◌, slice_index, slice_index_or}
use Rattle.coefficients.specs.Arithmetic.{Arithmetic}

-- every code of the row is an element
abbrev pub Inside : Arithmetic → List ℕ → Type 0
Inside K l = (i : ℕ) → i < length l → K.element (slice_index l i) ≡ true

-- the first code of the row that is no element stands at this place
pub record FirstForeign (K : Arithmetic) (l : List ℕ) (place code : ℕ) : Type 0 where
  pub within : place < length l
  pub is : slice_index_or l place 0 ≡ code
  pub foreign : K.element code ≡ false
  pub before : (i : ℕ) → i < place → K.element (slice_index l i) ≡ true

-- .. in the first of some rows that has one, where the rows are numbered from n
abbrev pub ForeignIn : Arithmetic → List (List ℕ) → ℕ → (row place code : ℕ) → Type 0
ForeignIn K [] n row place code = ⊥
ForeignIn K (l ∷ ls) n row place code = ((row ≡ n) × FirstForeign K l place code) ⊎ (Inside K l × ForeignIn K ls (suc n) row place code)

-- n is one more than the place of the last code that is not zero, or 0
pub record Sized (K : Arithmetic) (l : List ℕ) (n : ℕ) : Type 0 where
  pub within : n ≤ length l
  pub zeros : (i : ℕ) → n ≤ i → i < length l → slice_index l i ≡ K.zero
  pub lead : 0 < n → slice_index l (n - 1) ≢ K.zero

-- the i-th of rows of `width` codes that stand one after the other
abbrev pub cut_row : (width : ℕ) → List ℕ → ℕ → List ℕ
cut_row width t i = take width (drop (width * i) t)

-- the i-th row of a table, the coefficient of x^i
abbrev pub row_of : List ℕ → ℕ → List ℕ
row_of = cut_row 16
