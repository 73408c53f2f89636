-- Sums of bits: what is linear, and that it is known from its values at the eight bits of a byte.
use Rattle.std.specs.Prelude.{◌≡◌, ℕ, zero, suc, ◌+◌, ◌-◌, ◌*◌, ◌^◌, ◌<◌, ◌≤◌, bit_xor}
use Rattle.std.proofs.Common.{sym, ap, ap₂, ◌∙◌, ⊎_elim, zero-mul, one-mul, pow-suc, arith}
use Rattle.std.specs.Int.Bits.{xor_assoc, xor_self, xor_zero_r, xor_shifted}
use Rattle.std.proofs.lemmas.Nat.{pow_below, xor_comm, xor_block}
use Rattle.std.proofs.lemmas.Bool.{cases_lt}

pub xor_four : (a b c d : ℕ) → bit_xor (bit_xor a b) (bit_xor c d) ≡ bit_xor (bit_xor a c) (bit_xor b d)
xor_four a b c d =
    xor_assoc a b (bit_xor c d)
    ∙ ap (bit_xor a) (sym (xor_assoc b c d) ∙ ap (λ n. bit_xor n d) (xor_comm b c) ∙ xor_assoc c b d)
    ∙ sym (xor_assoc a c (bit_xor b d))

-- a bit times a number is linear in the bit
pub bit_left : (x y m : ℕ) → x < 2 → y < 2 → bit_xor x y * m ≡ bit_xor (x * m) (y * m)
bit_left zero y m h k = ap (λ z. bit_xor z (y * m)) (sym (zero-mul m))
bit_left (suc zero) zero m h k = sym (ap (bit_xor (1 * m)) (zero-mul m) ∙ xor_zero_r (1 * m))
bit_left (suc zero) (suc zero) m h k = zero-mul m ∙ sym (xor_self (1 * m))
bit_left (suc zero) (suc (suc y)) m h k = absurd (omega arith)
bit_left (suc (suc x)) y m h k = absurd (omega arith)

-- and in the number
pub bit_right : (x a b : ℕ) → x < 2 → x * bit_xor a b ≡ bit_xor (x * a) (x * b)
bit_right zero a b h = zero-mul (bit_xor a b) ∙ sym (ap₂ bit_xor (zero-mul a) (zero-mul b))
bit_right (suc zero) a b h = one-mul (bit_xor a b) ∙ sym (ap₂ bit_xor (one-mul a) (one-mul b))
bit_right (suc (suc x)) a b h = absurd (omega arith)

pub bit_below : (x a : ℕ) → x < 2 → a < 256 → x * a < 256
bit_below zero a h k = omega (arith, zero-mul a)
bit_below (suc zero) a h k = omega (arith, one-mul a)
bit_below (suc (suc x)) a h k = absurd (omega arith)

pub double_xor : (a b : ℕ) → 2 * bit_xor a b ≡ bit_xor (2 * a) (2 * b)
double_xor a b =
    let l : a * 2 + 0 ≡ 2 * a = omega arith in
    let r : b * 2 + 0 ≡ 2 * b = omega arith in
    let e : 2 * bit_xor a b ≡ bit_xor a b * 2 + 0 = omega arith in
    e ∙ sym (xor_block 1 a b 0 0 (omega arith) (omega arith)) ∙ ap₂ bit_xor l r

abbrev pub Linear : (ℕ → ℕ) → Type 0
Linear f = (a b : ℕ) → a < 256 → b < 256 → f (bit_xor a b) ≡ bit_xor (f a) (f b)

pub linear_zero : (f : ℕ → ℕ) → Linear f → f 0 ≡ 0
linear_zero f l = l 0 0 (omega arith) (omega arith) ∙ xor_self (f 0)

module _ (f g : ℕ → ℕ) (lf : Linear f) (lg : Linear g) (same : (i : ℕ) → i < 8 → f (2 ^ i) ≡ g (2 ^ i)) where
  agree_below : (k : ℕ) → k ≤ 8 → (a : ℕ) → a < 2 ^ k → f a ≡ g a
  agree_below zero h a l =
      let e : a ≡ 0 = omega arith in
      ap f e ∙ linear_zero f lf ∙ sym (linear_zero g lg) ∙ ap g (sym e)
  agree_below (suc k) h a l =
      ⊎_elim (λ low. agree_below k (omega arith) a low)
      (λ high.
      let y : ℕ = a - 2 ^ k in
      let top : 2 ^ k < 256 = pow_below k 8 (omega arith) in
      let twice : 2 ^ suc k ≡ 2 ^ k * 2 = pow-suc 2 k in
      let rest : a - 2 ^ k < 2 ^ k = omega arith in
      let whole : a ≡ 1 * 2 ^ k + (a - 2 ^ k) = omega arith in
      let unit : 1 * 2 ^ k ≡ 2 ^ k = one-mul (2 ^ k) in
      let split : a ≡ bit_xor (2 ^ k) (a - 2 ^ k) = whole ∙ sym (xor_shifted 1 k (a - 2 ^ k) rest) ∙ ap (λ n. bit_xor n (a - 2 ^ k)) unit in
      ap f split ∙ lf (2 ^ k) (a - 2 ^ k) top (omega arith)
      ∙ ap₂ bit_xor (same k (omega arith)) (agree_below k (omega arith) (a - 2 ^ k) rest)
      ∙ sym (lg (2 ^ k) (a - 2 ^ k) top (omega arith)) ∙ ap g (sym split))
      (cases_lt a (2 ^ k))

  pub agree : (a : ℕ) → a < 256 → f a ≡ g a
  agree a h = agree_below 8 (omega arith) a h
