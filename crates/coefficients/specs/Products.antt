-- The laws of `times 8` on bytes.
use Rattle.std.specs.Prelude.{◌≡◌, ℕ, zero, suc, ◌*◌, ◌/◌, ◌%◌, ◌^◌, ◌<◌, Bool, ◌==◌, bit_xor, nat_eq, nat_lt, refl}
use Rattle.std.proofs.Common.{ap, ap₂, ◌∙◌, mod-lt, arith}
use Rattle.std.proofs.lemmas.Nat.{div_below, pow_below, xor_lt, xor_shr, xor_mod}
use Rattle.std.proofs.lemmas.Bool.{ltb-true, eqb-true}
use Rattle.coefficients.specs.Byte.{x_times, times}
use Rattle.coefficients.specs.Every.{every, every_at}
use Rattle.coefficients.specs.Linear.{xor_four, bit_left, bit_right, bit_below, double_xor, Linear, linear_zero, agree}

pub x_times_linear : Linear x_times
unfolding x_times
x_times_linear a b ha hb =
    ap₂ bit_xor (double_xor a b) (ap (λ n. n * 0x11b) (xor_shr a b 7) ∙ bit_left (a / 128) (b / 128) 0x11b (div_below a 128 2 (omega arith) (omega arith)) (div_below b 128 2 (omega arith) (omega arith)))
    ∙ xor_four (2 * a) (2 * b) (a / 128 * 0x11b) (b / 128 * 0x11b)

pub x_times_below : (a : ℕ) → a < 256 → x_times a < 256
unfolding x_times
x_times_below a h = ltb-true (x_times a) 256 (every_at (λ n. nat_lt (x_times n) 256) 256 a refl h)

pub times_more : (n a b : ℕ) → times (suc n) a b ≡ bit_xor (b % 2 * a) (times n (x_times a) (b / 2))
unfolding times
times_more n a b = refl

bit : (b : ℕ) → b % 2 < 2
bit b = mod-lt b (omega arith)

pub times_below : (n a b : ℕ) → a < 256 → times n a b < 256
unfolding times
times_below zero a b h = omega arith
times_below (suc n) a b h = xor_lt 8 (b % 2 * a) (times n (x_times a) (b / 2)) (bit_below (b % 2) a (bit b) h) (times_below n (x_times a) (b / 2) (x_times_below a h))

pub times_left : (n b : ℕ) → Linear (λ a. times n a b)
unfolding times
times_left zero b x y hx hy = refl
times_left (suc n) b x y hx hy =
    ap₂ bit_xor (bit_right (b % 2) x y (bit b)) (ap (λ z. times n z (b / 2)) (x_times_linear x y hx hy) ∙ times_left n (b / 2) (x_times x) (x_times y) (x_times_below x hx) (x_times_below y hy))
    ∙ xor_four (b % 2 * x) (b % 2 * y) (times n (x_times x) (b / 2)) (times n (x_times y) (b / 2))

pub times_right : (n a x y : ℕ) → times n a (bit_xor x y) ≡ bit_xor (times n a x) (times n a y)
unfolding times
times_right zero a x y = refl
times_right (suc n) a x y =
    ap₂ bit_xor (ap (λ z. z * a) (xor_mod x y 1) ∙ bit_left (x % 2) (y % 2) a (bit x) (bit y)) (ap (times n (x_times a)) (xor_shr x y 1) ∙ times_right n (x_times a) (x / 2) (y / 2))
    ∙ xor_four (x % 2 * a) (y % 2 * a) (times n (x_times a) (x / 2)) (times n (x_times a) (y / 2))

right : (a : ℕ) → Linear (times 8 a)
right a x y hx hy = times_right 8 a x y

-- the products of bits, by computing
swaps : ℕ → ℕ → Bool
swaps i j = times 8 (2 ^ i) (2 ^ j) == times 8 (2 ^ j) (2 ^ i)

bits_swap : (i j : ℕ) → i < 8 → j < 8 → times 8 (2 ^ i) (2 ^ j) ≡ times 8 (2 ^ j) (2 ^ i)
unfolding times x_times swaps
bits_swap i j hi hj = eqb-true _ _ (every_at (swaps i) 8 j (every_at (λ i. every (swaps i) 8) 8 i refl hi) hj)

groups : ℕ → ℕ → ℕ → Bool
groups i j k = times 8 (times 8 (2 ^ i) (2 ^ j)) (2 ^ k) == times 8 (2 ^ i) (times 8 (2 ^ j) (2 ^ k))

bits_group : (i j k : ℕ) → i < 8 → j < 8 → k < 8 → times 8 (times 8 (2 ^ i) (2 ^ j)) (2 ^ k) ≡ times 8 (2 ^ i) (times 8 (2 ^ j) (2 ^ k))
unfolding times x_times groups
bits_group i j k hi hj hk =
    eqb-true _ _ (every_at (groups i j) 8 k (every_at (λ j. every (groups i j) 8) 8 j (every_at (λ i. every (λ j. every (groups i j) 8) 8) 8 i refl hi) hj) hk)

bits_unit : (i : ℕ) → i < 8 → times 8 1 (2 ^ i) ≡ 2 ^ i
unfolding times x_times
bits_unit i h = eqb-true (times 8 1 (2 ^ i)) (2 ^ i) (every_at (λ i. nat_eq (times 8 1 (2 ^ i)) (2 ^ i)) 8 i refl h)

-- a bit is a byte
bit_byte : (i : ℕ) → i < 8 → 2 ^ i < 256
bit_byte i h = pow_below i 8 h

pub times_comm : (a b : ℕ) → a < 256 → b < 256 → times 8 a b ≡ times 8 b a
times_comm a b ha hb =
    agree (λ a. times 8 a b) (times 8 b) (times_left 8 b) (right b)
    (λ i hi. agree (times 8 (2 ^ i)) (λ b. times 8 b (2 ^ i)) (right (2 ^ i)) (times_left 8 (2 ^ i)) (λ j hj. bits_swap i j hi hj) b hb)
    a ha

-- a product of three, in each place
module _ (x y : ℕ) (hx : x < 256) (hy : y < 256) where
  first_left : Linear (λ a. times 8 (times 8 a x) y)
  first_left a b ha hb = ap (λ z. times 8 z y) (times_left 8 x a b ha hb) ∙ times_left 8 y (times 8 a x) (times 8 b x) (times_below 8 a x ha) (times_below 8 b x hb)

  middle_left : Linear (λ a. times 8 (times 8 x a) y)
  middle_left a b ha hb = ap (λ z. times 8 z y) (times_right 8 x a b) ∙ times_left 8 y (times 8 x a) (times 8 x b) (times_below 8 x a hx) (times_below 8 x b hx)

  middle_right : Linear (λ a. times 8 x (times 8 a y))
  middle_right a b ha hb = ap (times 8 x) (times_left 8 y a b ha hb) ∙ times_right 8 x (times 8 a y) (times 8 b y)

  last_right : Linear (λ a. times 8 x (times 8 y a))
  last_right a b ha hb = ap (times 8 x) (times_right 8 y a b) ∙ times_right 8 x (times 8 y a) (times 8 y b)

pub times_assoc : (a b c : ℕ) → a < 256 → b < 256 → c < 256 → times 8 (times 8 a b) c ≡ times 8 a (times 8 b c)
times_assoc a b c ha hb hc =
    agree (λ a. times 8 (times 8 a b) c) (λ a. times 8 a (times 8 b c)) (first_left b c hb hc) (times_left 8 (times 8 b c))
    (λ i hi.
    agree (λ b. times 8 (times 8 (2 ^ i) b) c) (λ b. times 8 (2 ^ i) (times 8 b c)) (middle_left (2 ^ i) c (bit_byte i hi) hc) (middle_right (2 ^ i) c (bit_byte i hi) hc)
    (λ j hj.
    agree (times 8 (times 8 (2 ^ i) (2 ^ j))) (λ c. times 8 (2 ^ i) (times 8 (2 ^ j) c)) (right (times 8 (2 ^ i) (2 ^ j))) (last_right (2 ^ i) (2 ^ j) (bit_byte i hi) (bit_byte j hj))
    (λ k hk. bits_group i j k hi hj hk) c hc)
    b hb)
    a ha

pub times_one : (a : ℕ) → a < 256 → times 8 1 a ≡ a
times_one a ha = agree (times 8 1) (λ a. a) (right 1) (λ x y hx hy. refl) bits_unit a ha

pub times_zero : (a : ℕ) → times 8 a 0 ≡ 0
times_zero a = linear_zero (times 8 a) (right a)

pub zero_times : (b : ℕ) → times 8 0 b ≡ 0
zero_times b = linear_zero (λ a. times 8 a b) (times_left 8 b)
