-- The sizes in x and in y of 16 rows of `width` codes, by codes and by the polynomial that they mean.
use Rattle.std.specs.Prelude.{◌≡◌, ℕ, ◌-◌, ◌<◌, ◌≤◌, List, length, slice_index}
use Rattle.coefficients.specs.Arithmetic.{Arithmetic, Laws, IsField}
use Rattle.algebra.specs.Polynomial.{size}
use Rattle.algebra.specs.Change.{Poly₂}
use Rattle.bivariate.specs.Degrees.{width}
use Rattle.polynomials.specs.Elements.{element_discrete, elements, field, polynomials, polynomial_xy}
use Rattle.polynomials.specs.Rows.{Inside, Sized, cut_row}

-- every code of the row is zero
abbrev pub ZeroRow : Arithmetic → List ℕ → Type 0
ZeroRow K l = (j : ℕ) → j < length l → slice_index l j ≡ K.zero

-- n is one more than the place of the last of the 16 rows that is not zero, or 0
pub record SizedX (K : Arithmetic) (w : ℕ) (t : List ℕ) (n : ℕ) : Type 0 where
  pub within : n ≤ 16
  pub zeros : (i : ℕ) → n ≤ i → i < 16 → ZeroRow K (cut_row w t i)
  pub lead : 0 < n → ZeroRow K (cut_row w t (n - 1)) → ⊥

-- n is the size in x of the polynomial that the rows mean
abbrev pub SizeX : Arithmetic → (w : ℕ) (t : List ℕ) (n : ℕ) → Type 0
SizeX K w t n = Inside K t → (laws : Laws K) → size (polynomials laws) (polynomial_xy laws w t) ≡ n

-- each of the 16 rows has a size of at most n, and one has the size n, unless n is 0
pub record SizedY (K : Arithmetic) (w : ℕ) (t : List ℕ) (n : ℕ) : Type 0 where
  pub within : n ≤ w
  pub sizes : (i : ℕ) → i < 16 → (m : ℕ) × Sized K (cut_row w t i) m × (m ≤ n)
  pub some : 0 < n → (i : ℕ) × (i < 16) × Sized K (cut_row w t i) n

-- over a field, the largest size in y of a coefficient of x^i
abbrev pub width_over : {K : Arithmetic} (laws : Laws K) → IsField K → Poly₂ (elements laws) (element_discrete K) → ℕ
unfolding field
width_over laws only A = width (field laws only) A

-- over a field, n is the size in y of the polynomial that the rows mean
abbrev pub SizeY : Arithmetic → (w : ℕ) (t : List ℕ) (n : ℕ) → Type 0
SizeY K w t n = Inside K t → (laws : Laws K) (only : IsField K) → width_over laws only (polynomial_xy laws w t) ≡ n
