-- The powers of a code.
use Rattle.std.specs.Prelude.{◌≡◌, ℕ, zero, suc, ◌<◌, List, length, slice_index}
use Rattle.coefficients.specs.Arithmetic.{Arithmetic}

unfoldable pub power_of : Arithmetic → (x n : ℕ) → ℕ
power_of K x zero = K.one
power_of K x (suc n) = K.product x (power_of K x n)

-- the row is 1, x, x², ..
abbrev pub Powers : Arithmetic → (x : ℕ) → List ℕ → Type 0
Powers K x l = (i : ℕ) → i < length l → slice_index l i ≡ power_of K x i
