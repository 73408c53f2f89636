-- Bytes as polynomials over the field of two elements, modulo x^8 + x^4 + x^3 + x + 1: bit i of a byte is the coefficient of x^i.
use Rattle.std.specs.Prelude.{ℕ, zero, suc, ◌*◌, ◌/◌, ◌%◌, bit_xor}
use Rattle.coefficients.specs.Arithmetic.{Arithmetic}
use Rattle.coefficients.specs.Below.{below}

-- x times a: a shifted left, and reduced by the modulus where bit 7 was set
unfoldable pub x_times : ℕ → ℕ
x_times a = bit_xor (2 * a) (a / 128 * 0x11b)

-- the sum of x^i times a, over the set bits i among the n low bits of b
unfoldable pub times : ℕ → ℕ → ℕ → ℕ
times zero a b = 0
times (suc n) a b = bit_xor (b % 2 * a) (times n (x_times a) (b / 2))

-- a power of x + 1, of which every byte but 0 is one
unfoldable pub power_of : ℕ → ℕ
power_of zero = 1
power_of (suc n) = times 8 (power_of n) 3

abbrev pub bytes : Arithmetic
bytes = below 256 bit_xor bit_xor (times 8)
