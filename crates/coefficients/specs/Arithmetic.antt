-- What a kind of coefficient means: operations on codes, and the laws that they owe.
use Rattle.std.specs.Prelude.{◌≡◌, ℕ, Bool, true, false, ◌≢◌}

-- The elements of a kind by their codes, and what is computed with them. `inverse` is a reciprocal where there is one.
pub record Arithmetic : Type 0 where
  pub element : ℕ → Bool
  pub zero : ℕ
  pub one : ℕ
  pub sum : ℕ → ℕ → ℕ
  pub difference : ℕ → ℕ → ℕ
  pub product : ℕ → ℕ → ℕ
  pub inverse : ℕ → ℕ

module _ (K : Arithmetic) where
  open K use {element, zero, one, sum, difference, product, inverse}

  -- A commutative ring of elements. Results are elements, and with a foreign code the three operations answer zero.
  pub record Laws : Type 0 where
    pub zero_in : element zero ≡ true
    pub one_in : element one ≡ true
    pub apart : zero ≡ one → ⊥
    pub sum_in : (a b : ℕ) → element (sum a b) ≡ true
    pub difference_in : (a b : ℕ) → element (difference a b) ≡ true
    pub product_in : (a b : ℕ) → element (product a b) ≡ true
    pub sum_comm : (a b : ℕ) → sum a b ≡ sum b a
    pub sum_assoc : (a b c : ℕ) → element a ≡ true → element b ≡ true → element c ≡ true → sum (sum a b) c ≡ sum a (sum b c)
    pub sum_zero : (a : ℕ) → element a ≡ true → sum zero a ≡ a
    pub sum_less : (a b : ℕ) → element a ≡ true → element b ≡ true → difference (sum a b) b ≡ a
    pub less_sum : (a b : ℕ) → element a ≡ true → element b ≡ true → sum (difference a b) b ≡ a
    pub product_comm : (a b : ℕ) → product a b ≡ product b a
    pub product_assoc : (a b c : ℕ) → element a ≡ true → element b ≡ true → element c ≡ true → product (product a b) c ≡ product a (product b c)
    pub product_one : (a : ℕ) → element a ≡ true → product one a ≡ a
    pub distributes : (a b c : ℕ) → element a ≡ true → element b ≡ true → element c ≡ true → product a (sum b c) ≡ sum (product a b) (product a c)
    pub sum_foreign : (a b : ℕ) → element a ≡ false → sum a b ≡ zero
    pub difference_foreign_left : (a b : ℕ) → element a ≡ false → difference a b ≡ zero
    pub difference_foreign_right : (a b : ℕ) → element b ≡ false → difference a b ≡ zero
    pub product_foreign : (a b : ℕ) → element a ≡ false → product a b ≡ zero
    pub inverse_in : (a r : ℕ) → product a r ≡ one → element (inverse a) ≡ true
    pub inverse_of : (a r : ℕ) → product a r ≡ one → product a (inverse a) ≡ one

  -- only zero lacks a reciprocal
  abbrev pub IsField : Type 0
  IsField = (a : ℕ) → element a ≡ true → (a ≢ zero) → (r : ℕ) × (element r ≡ true) × (product a r ≡ one)
