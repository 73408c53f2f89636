-- Prime numbers.
use Rattle.std.specs.Prelude.{◌≡◌, ℕ, zero, suc, ◌*◌, ◌%◌, ◌≤◌, Bool, true, not, ◌&&◌, ◌||◌, ◌⊎◌, ◌==◌, nat_le, nat_lt}
use Rattle.std.specs.Int.{◌∣◌}
use Rattle.coefficients.specs.declared.primes.KnownPrime.{KnownPrime}
use Rattle.coefficients.specs.declared.primes.KnownPrime.TheVariants.{Eleven, LargestModulus}

pub record Prime (p : ℕ) : Type 0 where
  pub low : 2 ≤ p
  pub divisors : (d : ℕ) → d ∣ p → (d ≡ 1) ⊎ (d ≡ p)

-- no number from 2 up to n - 1 divides p
abbrev pub none_divides : ℕ → ℕ → Bool
none_divides p zero = true
none_divides p (suc n) = (nat_lt n 2 || not (p % n == 0)) && none_divides p n

-- a test that can be computed, where p is below the square of n
abbrev pub prime_test : ℕ → ℕ → Bool
prime_test n p = (nat_le 2 p && nat_lt p (n * n)) && none_divides p n

-- what each prime modulus with a name is
abbrev pub known_modulus : KnownPrime → ℕ
known_modulus Eleven = 11
known_modulus LargestModulus = 2147483647
