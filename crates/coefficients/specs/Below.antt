-- Kinds whose elements are the codes below some number, with 0 for zero and 1 for one.
use Rattle.std.specs.Prelude.{◌≡◌, ℕ, zero, suc, ◌<◌, ◌≤◌, Bool, cond, ◌&&◌, nat_eq, nat_lt}
use Rattle.coefficients.specs.Arithmetic.{Arithmetic}

-- f at two elements, else 0
abbrev pub guarded : ℕ → (ℕ → ℕ → ℕ) → ℕ → ℕ → ℕ
guarded count f a b = cond (nat_lt a count && nat_lt b count) (f a b) 0

-- the last number below n that passes the test, or 0
abbrev pub last_below : (ℕ → Bool) → ℕ → ℕ
last_below test zero = 0
last_below test (suc n) = cond (test n) n (last_below test n)

-- the last element whose product with a is one, or 0
unfoldable pub inverse_below : ℕ → (ℕ → ℕ → ℕ) → ℕ → ℕ
inverse_below count product a = last_below (λ r. nat_eq (guarded count product a r) 1) count

abbrev pub below : ℕ → (ℕ → ℕ → ℕ) → (ℕ → ℕ → ℕ) → (ℕ → ℕ → ℕ) → Arithmetic
below count sum difference product = record {
  element = λ c. nat_lt c count;
  zero = 0;
  one = 1;
  sum = guarded count sum;
  difference = guarded count difference;
  product = guarded count product;
  inverse = inverse_below count product;
}

-- what the operations owe at elements
pub record BelowLaws (count : ℕ) (sum difference product : ℕ → ℕ → ℕ) : Type 0 where
  pub two : 2 ≤ count
  pub sum_below : (a b : ℕ) → a < count → b < count → sum a b < count
  pub difference_below : (a b : ℕ) → a < count → b < count → difference a b < count
  pub product_below : (a b : ℕ) → a < count → b < count → product a b < count
  pub sum_comm : (a b : ℕ) → a < count → b < count → sum a b ≡ sum b a
  pub sum_assoc : (a b c : ℕ) → a < count → b < count → c < count → sum (sum a b) c ≡ sum a (sum b c)
  pub sum_zero : (a : ℕ) → a < count → sum 0 a ≡ a
  pub sum_less : (a b : ℕ) → a < count → b < count → difference (sum a b) b ≡ a
  pub less_sum : (a b : ℕ) → a < count → b < count → sum (difference a b) b ≡ a
  pub product_comm : (a b : ℕ) → a < count → b < count → product a b ≡ product b a
  pub product_assoc : (a b c : ℕ) → a < count → b < count → c < count → product (product a b) c ≡ product a (product b c)
  pub product_one : (a : ℕ) → a < count → product 1 a ≡ a
  pub distributes : (a b c : ℕ) → a < count → b < count → c < count → product a (sum b c) ≡ sum (product a b) (product a c)
