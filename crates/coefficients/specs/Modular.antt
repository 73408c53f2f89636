-- The residues modulo p owe what a kind of the codes below p owes.
use Rattle.std.specs.Prelude.{◌≡◌, ℕ, ◌+◌, ◌-◌, ◌*◌, ◌%◌, ◌<◌, ◌≤◌}
use Rattle.std.proofs.Common.{sym, ap, ◌∙◌, ⊎_elim, mod-lt, mod-eq_of_lt, mul-add, mul_assoc, mul_comm, add_comm, add_assoc, arith}
use Rattle.std.proofs.Math.Nat.{mod-add-mod, add-mod-mod, add-mod, add-mod_right, mod-eq-sub-mod}
use Rattle.std.proofs.lemmas.Bool.{cases_lt}
use Rattle.std.proofs.lemmas.Nat.{mul-mod_first, mul-mod_second}
use Rattle.coefficients.specs.Arithmetic.{Laws}
use Rattle.coefficients.specs.Below.{BelowLaws}
use Rattle.coefficients.specs.BelowLemmas.{below_laws}
use Rattle.coefficients.specs.Residue.{sum, difference, product, modulo}

-- a number below twice p, reduced by one subtraction
pub mod_once : (p n : ℕ) → p ≤ n → n - p < p → n % p ≡ n - p
mod_once p n h l = mod-eq-sub-mod h ∙ mod-eq_of_lt l

module _ (p a b : ℕ) (ha : a < p) (hb : b < p) where
  difference_of_sum : difference p (sum p a b) b ≡ a
  difference_of_sum = ⊎_elim small large (cases_lt (a + b) p)
    where
      small : a + b < p → difference p (sum p a b) b ≡ a
      small h =
          let e : ((a + b) + p) - b ≡ a + p = omega arith in
          ap (λ n. ((n + p) - b) % p) (mod-eq_of_lt h) ∙ ap (λ n. n % p) e ∙ add-mod_right a p ∙ mod-eq_of_lt ha

      large : p ≤ a + b → difference p (sum p a b) b ≡ a
      large h =
          let e : (((a + b) - p) + p) - b ≡ a = omega arith in
          ap (λ n. ((n + p) - b) % p) (mod_once p (a + b) h (omega arith)) ∙ ap (λ n. n % p) e ∙ mod-eq_of_lt ha

  sum_of_difference : sum p (difference p a b) b ≡ a
  sum_of_difference =
      let e : ((a + p) - b) + b ≡ a + p = omega arith in
      mod-add-mod ((a + p) - b) p b ∙ ap (λ n. n % p) e ∙ add-mod_right a p ∙ mod-eq_of_lt ha

pub residues : (p : ℕ) → 2 ≤ p → BelowLaws p (sum p) (difference p) (product p)
residues p low =
    let pos : 0 < p = omega arith in
    record {
      two = low;
      sum_below = λ a b h k. mod-lt (a + b) pos;
      difference_below = λ a b h k. mod-lt ((a + p) - b) pos;
      product_below = λ a b h k. mod-lt (a * b) pos;
      sum_comm = λ a b h k. ap (λ n. n % p) (add_comm a b);
      sum_assoc = λ a b c h k l. mod-add-mod (a + b) p c ∙ ap (λ n. n % p) (add_assoc a b c) ∙ sym (add-mod-mod a (b + c) p);
      sum_zero = λ a h. let e : 0 + a ≡ a = omega arith in ap (λ n. n % p) e ∙ mod-eq_of_lt h;
      sum_less = λ a b h k. difference_of_sum p a b h k;
      less_sum = λ a b h k. sum_of_difference p a b h k;
      product_comm = λ a b h k. ap (λ n. n % p) (mul_comm a b);
      product_assoc = λ a b c h k l. mul-mod_first (a * b) c p ∙ ap (λ n. n % p) (mul_assoc a b c) ∙ sym (mul-mod_second a (b * c) p);
      product_one = λ a h. let e : 1 * a ≡ a = omega arith in ap (λ n. n % p) e ∙ mod-eq_of_lt h;
      distributes = λ a b c h k l. mul-mod_second a (b + c) p ∙ ap (λ n. n % p) (mul-add a b c) ∙ add-mod (a * b) (a * c) p;
    }

pub modulo_laws : (p : ℕ) → 2 ≤ p → Laws (modulo p)
modulo_laws p low = below_laws p (sum p) (difference p) (product p) (residues p low)
