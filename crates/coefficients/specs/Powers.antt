-- Powers of x + 1: products by sums of exponents, and reciprocals.
use Rattle.std.specs.Prelude.{◌≡◌, ℕ, zero, suc, ◌+◌, ◌-◌, ◌<◌, refl}
use Rattle.std.proofs.Common.{sym, ap, ap₂, ◌∙◌, arith}
use Rattle.coefficients.specs.Byte.{x_times, times, power_of}
use Rattle.coefficients.specs.Products.{times_below, times_assoc, times_comm, times_one}
use Rattle.coefficients.specs.Tables.{power_at, powers_from}

pub power_below : (n : ℕ) → power_of n < 256
unfolding power_of
power_below zero = omega arith
power_below (suc n) = times_below 8 (power_of n) 3 (power_below n)

pub power_add : (i j m : ℕ) → m ≡ i + j → times 8 (power_of i) (power_of j) ≡ power_of m
unfolding power_of
power_add i zero m e =
    let same : i ≡ m = omega arith in
    times_comm (power_of i) 1 (power_below i) (omega arith) ∙ times_one (power_of i) (power_below i) ∙ ap power_of same
power_add i (suc j) m e =
    let same : suc (i + j) ≡ m = omega arith in
    sym (times_assoc (power_of i) (power_of j) 3 (power_below i) (power_below j) (omega arith))
    ∙ ap (λ z. times 8 z 3) (power_add i j (i + j) refl) ∙ ap power_of same

-- x + 1 has order 255
pub power_round : power_of 255 ≡ 1
unfolding times x_times
power_round = sym (power_at (powers_from 256 1) refl 255 (omega arith))

pub times_by_logs : (a b i j m : ℕ) → power_of i ≡ a → power_of j ≡ b → m ≡ i + j → times 8 a b ≡ power_of m
times_by_logs a b i j m ea eb e = ap₂ (times 8) (sym ea) (sym eb) ∙ power_add i j m e

pub reciprocal_by_log : (a i : ℕ) → power_of i ≡ a → i < 255 → times 8 a (power_of (255 - i)) ≡ 1
reciprocal_by_log a i e h =
    let whole : 255 ≡ i + (255 - i) = omega arith in
    times_by_logs a (power_of (255 - i)) i (255 - i) 255 e refl whole ∙ power_round
