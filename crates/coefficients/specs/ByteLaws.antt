-- Bytes owe what a kind of the codes below 256 owes, and are a field.
use Rattle.std.specs.Prelude.{◌≡◌, ℕ, ◌-◌, ◌<◌, ◌≢◌, bit_xor, slice_index_or, refl}
use Rattle.std.proofs.Common.{sym, ap, ◌∙◌, arith}
use Rattle.std.proofs.lemmas.Nat.{xor_comm, xor_lt}
use Rattle.std.specs.Int.Bits.{xor_assoc, xor_self, xor_zero_r}
use Rattle.std.proofs.lemmas.Bool.{ltb-true, lt-ltb}
use Rattle.coefficients.specs.Arithmetic.{Laws, IsField}
use Rattle.coefficients.specs.Below.{BelowLaws, guarded}
use Rattle.coefficients.specs.Byte.{bytes, x_times, times, power_of}
use Rattle.coefficients.specs.BelowLemmas.{guarded_at, guarded_some, below_laws}
use Rattle.coefficients.specs.Products.{times_below, times_comm, times_assoc, times_one, times_right, zero_times}
use Rattle.coefficients.specs.Tables.{powers_from, logs_from, log_at}
use Rattle.coefficients.specs.Powers.{power_below, reciprocal_by_log}

xor_back : (a b : ℕ) → bit_xor (bit_xor a b) b ≡ a
xor_back a b = xor_assoc a b b ∙ ap (bit_xor a) (xor_self b) ∙ xor_zero_r a

pub byte_laws : BelowLaws 256 bit_xor bit_xor (times 8)
byte_laws = record {
  two = omega arith;
  sum_below = λ a b h k. xor_lt 8 a b h k;
  difference_below = λ a b h k. xor_lt 8 a b h k;
  product_below = λ a b h k. times_below 8 a b h;
  sum_comm = λ a b h k. xor_comm a b;
  sum_assoc = λ a b c h k l. xor_assoc a b c;
  sum_zero = λ a h. refl;
  sum_less = λ a b h k. xor_back a b;
  less_sum = λ a b h k. xor_back a b;
  product_comm = times_comm;
  product_assoc = times_assoc;
  product_one = times_one;
  distributes = λ a b c h k l. times_right 8 a b c;
}

pub bytes_laws : Laws bytes
bytes_laws = below_laws 256 bit_xor bit_xor (times 8) byte_laws

-- a power of x + 1 and the power that makes 255 of it
pub by_logs : (a i : ℕ) → a < 256 → i < 255 → power_of i ≡ a → guarded 256 (times 8) a (power_of (255 - i)) ≡ 1
by_logs a i h l e = guarded_at 256 (times 8) a (power_of (255 - i)) h (power_below (255 - i)) ∙ reciprocal_by_log a i e l

-- no product with 0 is 1
pub zero_none : (r : ℕ) → guarded 256 (times 8) 0 r ≢ 1
zero_none r e =
    let inside = guarded_some 256 (times 8) 0 r 0 e in
    let z = sym (guarded_at 256 (times 8) 0 r inside.0 inside.1 ∙ zero_times r) ∙ e in
    omega arith

pub byte_field : IsField bytes
unfolding times x_times
byte_field a inside apart =
    let h : a < 256 = ltb-true a 256 inside in
    let pos : 0 < a = omega arith in
    let xs = powers_from 255 1 in
    let i : ℕ = slice_index_or (logs_from xs 256 0) a 0 in
    let both = log_at xs (logs_from xs 256 0) refl refl a h in
    (power_of (255 - i), lt-ltb (power_of (255 - i)) 256 (power_below (255 - i)), by_logs a i h both.0 (both.1 pos))
