-- What products of rows answer and leave.
use Rattle.std.specs.Prelude.{◌≡◌, ℕ, ◌+◌, ◌<◌, ◌≤◌, Bool, true, false, List, length, Ok, Err, Result}
use Rattle.coefficients.specs.Arithmetic.{Arithmetic, Laws}
use Rattle.polynomials.specs.declared.product.NoRoom.{NoRoom}
use Rattle.polynomials.specs.Elements.{polynomial, polynomials}
use Rattle.polynomials.specs.Rows.{Inside, Sized}

-- whether a product of polynomials of sizes m and n, which is zero or has size m + n - 1, has its place
abbrev pub FitsRoom : (m n room : ℕ) → Bool → Type 0
FitsRoom m n room true = 0 < m → 0 < n → m + n ≤ room + 1
FitsRoom m n room false = (0 < m) × (0 < n) × (room + 1 < m + n)

-- `multiply_row`: a times b over the row `held`, which becomes p; there is no room where neither is zero and the sizes of a and b are too large for it
abbrev pub Multiplied : Arithmetic → (a b held p : List ℕ) → Result (Unit {0}) NoRoom → Type 0
Multiplied K a b held p (Ok u) = Inside K a → Inside K b → Inside K p × ((laws : Laws K) → polynomial laws p ≡ (polynomials laws).mul (polynomial laws a) (polynomial laws b))
Multiplied K a b held p (Err e) = (p ≡ held) × ((m n : ℕ) → Sized K a m → Sized K b n → FitsRoom m n (length held) false)
