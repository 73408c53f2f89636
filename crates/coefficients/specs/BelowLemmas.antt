-- The laws of a kind whose elements are the codes below some number, from what its operations owe at elements.
use Rattle.std.specs.Prelude.{◌≡◌, ℕ, zero, suc, ◌+◌, ◌<◌, ◌≤◌, Bool, true, false, ◌&&◌, ltb, nat_eq, nat_lt, refl}
use Rattle.std.proofs.Common.{sym, ap, ap₂, ◌∙◌, ⊎_elim, arith}
use Rattle.std.proofs.lemmas.Bool.{cond-true, cond-false, cond_both, both_ways, and_from, and_left, and_right, and_parts, and_cases, lt-ltb, ltb-true, eq-eqb, eqb-true}
use Rattle.coefficients.specs.Arithmetic.{Arithmetic, Laws}
use Rattle.coefficients.specs.Below.{guarded, last_below, inverse_below, below, BelowLaws}
use Rattle.coefficients.specs.Listing.{Listing}

-- where there are at most largest + 1 codes, none is above the largest
pub codes_to_largest : (count largest : ℕ) → count ≤ largest + 1 → (c : ℕ) → nat_lt c count ≡ true → c ≤ largest
codes_to_largest count largest h c inside = let l : c < count = ltb-true c count inside in omega arith

-- each code below `count` stands in its own place
pub own_places : (count : ℕ) → Listing (λ c. nat_lt c count) count (λ n. n) (λ c. c)
own_places count = record {
  nth_in = λ n h. lt-ltb n count h;
  place_below = λ c e. ltb-true c count e;
  place_nth = λ n h. refl;
  nth_place = λ c e. refl;
}

module _ (count : ℕ) (f : ℕ → ℕ → ℕ) (a b : ℕ) where
  pub guarded_at : a < count → b < count → guarded count f a b ≡ f a b
  guarded_at h k = cond-true (nat_lt a count && nat_lt b count) (f a b) 0 (and_from (nat_lt a count) (nat_lt b count) (lt-ltb a count h) (lt-ltb b count k))

  pub guarded_left : ltb a count ≡ false → guarded count f a b ≡ 0
  guarded_left e = cond-false (nat_lt a count && nat_lt b count) (f a b) 0 (and_left (nat_lt a count) (nat_lt b count) e)

  pub guarded_right : ltb b count ≡ false → guarded count f a b ≡ 0
  guarded_right e = cond-false (nat_lt a count && nat_lt b count) (f a b) 0 (and_right (nat_lt a count) (nat_lt b count) e)

  -- what holds of 0, and of f at elements, holds of the guarded answer
  pub guarded_is : (P : ℕ → Type 0) → P 0 → (a < count → b < count → P (f a b)) → P (guarded count f a b)
  guarded_is P none some =
      cond_both (nat_lt a count && nat_lt b count) (f a b) 0 P
      (λ e. let both = and_parts (nat_lt a count) (nat_lt b count) e in some (ltb-true a count both.0) (ltb-true b count both.1))
      (λ e. none)

  -- a product that is not 0 is one of elements
  pub guarded_some : (r : ℕ) → guarded count f a b ≡ suc r → (a < count) × (b < count)
  guarded_some r e =
      cond_both (nat_lt a count && nat_lt b count) (f a b) 0 (λ z. z ≡ suc r → (a < count) × (b < count))
      (λ t q. let both = and_parts (nat_lt a count) (nat_lt b count) t in (ltb-true a count both.0, ltb-true b count both.1))
      (λ t q. absurd (omega arith))
      e

pub guarded_swap : (count : ℕ) (f : ℕ → ℕ → ℕ) → ((a b : ℕ) → a < count → b < count → f a b ≡ f b a) → (a b : ℕ) → guarded count f a b ≡ guarded count f b a
guarded_swap count f comm a b =
    cond_both (nat_lt a count && nat_lt b count) (f a b) 0 (λ z. z ≡ guarded count f b a)
    (λ e.
    let both = and_parts (nat_lt a count) (nat_lt b count) e in
    let ha = ltb-true a count both.0 in
    let hb = ltb-true b count both.1 in
    comm a b ha hb ∙ sym (guarded_at count f b a hb ha))
    (λ e. ⊎_elim (λ l. sym (guarded_right count f b a l)) (λ r. sym (guarded_left count f b a r)) (and_cases (nat_lt a count) (nat_lt b count) e))

-- where some number below n passes, `last_below` passes and is below n
pub last_found : (test : ℕ → Bool) (n r : ℕ) → r < n → test r ≡ true → (test (last_below test n) ≡ true) × (last_below test n < n)
last_found test zero r h t = absurd (omega arith)
last_found test (suc n) r h t =
    cond_both (test n) n (last_below test n) (λ z. (test z ≡ true) × (z < suc n))
    (λ e. (e, omega arith))
    (λ e.
    let other : r ≡ n → ⊥ = λ q. both_ways (test n) e (ap test (sym q) ∙ t) in
    let earlier : r < n = omega arith in
    let found = last_found test n r earlier t in
    (found.0, omega arith))

module _ (count : ℕ) (sum difference product : ℕ → ℕ → ℕ) (owed : BelowLaws count sum difference product) where
  K : Arithmetic
  K = below count sum difference product

  open owed use {two}

  -- the value of each operation at elements, and that it is an element
  sum_at : (a b : ℕ) → a < count → b < count → guarded count sum a b ≡ sum a b
  sum_at a b h k = guarded_at count sum a b h k

  product_at : (a b : ℕ) → a < count → b < count → guarded count product a b ≡ product a b
  product_at a b h k = guarded_at count product a b h k

  in_sum : (a b : ℕ) → guarded count sum a b < count
  in_sum a b = guarded_is count sum a b (λ z. z < count) (omega arith) (owed.sum_below a b)

  in_difference : (a b : ℕ) → guarded count difference a b < count
  in_difference a b = guarded_is count difference a b (λ z. z < count) (omega arith) (owed.difference_below a b)

  in_product : (a b : ℕ) → guarded count product a b < count
  in_product a b = guarded_is count product a b (λ z. z < count) (omega arith) (owed.product_below a b)

  module _ (a b c : ℕ) (ha : a < count) (hb : b < count) (hc : c < count) where
    sums : guarded count sum (guarded count sum a b) c ≡ guarded count sum a (guarded count sum b c)
    sums =
        sum_at (guarded count sum a b) c (in_sum a b) hc ∙ ap (λ n. sum n c) (sum_at a b ha hb) ∙ owed.sum_assoc a b c ha hb hc
        ∙ ap (sum a) (sym (sum_at b c hb hc)) ∙ sym (sum_at a (guarded count sum b c) ha (in_sum b c))

    products : guarded count product (guarded count product a b) c ≡ guarded count product a (guarded count product b c)
    products =
        product_at (guarded count product a b) c (in_product a b) hc ∙ ap (λ n. product n c) (product_at a b ha hb) ∙ owed.product_assoc a b c ha hb hc
        ∙ ap (product a) (sym (product_at b c hb hc)) ∙ sym (product_at a (guarded count product b c) ha (in_product b c))

    spread : guarded count product a (guarded count sum b c) ≡ guarded count sum (guarded count product a b) (guarded count product a c)
    spread =
        product_at a (guarded count sum b c) ha (in_sum b c) ∙ ap (product a) (sum_at b c hb hc) ∙ owed.distributes a b c ha hb hc
        ∙ ap₂ sum (sym (product_at a b ha hb)) (sym (product_at a c ha hc)) ∙ sym (sum_at (guarded count product a b) (guarded count product a c) (in_product a b) (in_product a c))

  module _ (a b : ℕ) (ha : a < count) (hb : b < count) where
    taken : guarded count difference (guarded count sum a b) b ≡ a
    taken = guarded_at count difference (guarded count sum a b) b (in_sum a b) hb ∙ ap (λ n. difference n b) (sum_at a b ha hb) ∙ owed.sum_less a b ha hb

    given : guarded count sum (guarded count difference a b) b ≡ a
    given = sum_at (guarded count difference a b) b (in_difference a b) hb ∙ ap (λ n. sum n b) (guarded_at count difference a b ha hb) ∙ owed.less_sum a b ha hb

  found : (a r : ℕ) → guarded count product a r ≡ 1 → (guarded count product a (inverse_below count product a) ≡ 1) × (inverse_below count product a < count)
  unfolding inverse_below
  found a r e =
      let inside = guarded_some count product a r 0 e in
      let last = last_found (λ r. nat_eq (guarded count product a r) 1) count r inside.1 (eq-eqb _ 1 e) in
      (eqb-true _ 1 last.0, last.1)

  pub below_laws : Laws (below count sum difference product)
  below_laws = record {
    zero_in = lt-ltb 0 count (omega arith);
    one_in = lt-ltb 1 count (omega arith);
    apart = λ e. omega arith;
    sum_in = λ a b. lt-ltb _ count (in_sum a b);
    difference_in = λ a b. lt-ltb _ count (in_difference a b);
    product_in = λ a b. lt-ltb _ count (in_product a b);
    sum_comm = guarded_swap count sum owed.sum_comm;
    sum_assoc = λ a b c h i j. sums a b c (ltb-true a count h) (ltb-true b count i) (ltb-true c count j);
    sum_zero = λ a h. let l : a < count = ltb-true a count h in sum_at 0 a (omega arith) l ∙ owed.sum_zero a l;
    sum_less = λ a b h i. taken a b (ltb-true a count h) (ltb-true b count i);
    less_sum = λ a b h i. given a b (ltb-true a count h) (ltb-true b count i);
    product_comm = guarded_swap count product owed.product_comm;
    product_assoc = λ a b c h i j. products a b c (ltb-true a count h) (ltb-true b count i) (ltb-true c count j);
    product_one = λ a h. let l : a < count = ltb-true a count h in product_at 1 a (omega arith) l ∙ owed.product_one a l;
    distributes = λ a b c h i j. spread a b c (ltb-true a count h) (ltb-true b count i) (ltb-true c count j);
    sum_foreign = λ a b h. guarded_left count sum a b h;
    difference_foreign_left = λ a b h. guarded_left count difference a b h;
    difference_foreign_right = λ a b h. guarded_right count difference a b h;
    product_foreign = λ a b h. guarded_left count product a b h;
    inverse_in = λ a r e. lt-ltb _ count (found a r e).1;
    inverse_of = λ a r e. (found a r e).0;
  }
