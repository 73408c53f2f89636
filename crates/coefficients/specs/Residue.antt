-- The residues modulo p: arithmetic on the codes 0 to p - 1.
use Rattle.std.specs.Prelude.{ℕ, ◌+◌, ◌-◌, ◌*◌, ◌%◌}
use Rattle.coefficients.specs.Arithmetic.{Arithmetic}
use Rattle.coefficients.specs.Below.{below}

abbrev pub sum : ℕ → ℕ → ℕ → ℕ
sum p a b = (a + b) % p

abbrev pub difference : ℕ → ℕ → ℕ → ℕ
difference p a b = ((a + p) - b) % p

abbrev pub product : ℕ → ℕ → ℕ → ℕ
product p a b = (a * b) % p

abbrev pub modulo : ℕ → Arithmetic
modulo p = below p (sum p) (difference p) (product p)
