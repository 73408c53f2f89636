-- A sum of products of residues that is reduced at the end.
use Rattle.std.proofs.Common.{◌≡◌, ℕ, ◌+◌, ◌*◌, ◌%◌, ◌<◌, ◌≤◌, sym, ap, ◌∙◌, mod-lt, add_comm, arith}
use native.Mathlib.Nat.{add-mod, mod-mod_of_dvd, dvd-mul_right}
use Rattle.coefficients.specs.Below.{guarded}
use Rattle.coefficients.specs.Residue.{sum, product}
use Rattle.coefficients.specs.BelowLemmas.{guarded_at, guarded_is}

-- a product of elements more, kept below the square of p
pub late_in : (p : ℕ) → 2 ≤ p → (total x y r : ℕ) → x < p → y < p → r ≡ (total + x * y) % (p * p) → r % p ≡ guarded p (sum p) (guarded p (product p) x y) (total % p)
late_in p low total x y r hx hy e =
    let v : total % p < p = mod-lt total (omega arith) in
    let w : guarded p (product p) x y < p = guarded_is p (product p) x y (λ z. z < p) (omega arith) (λ h k. mod-lt (x * y) (omega arith)) in
    ap (λ n. n % p) e ∙ mod-mod_of_dvd p (total + x * y) (dvd-mul_right p p) ∙ ap (λ n. n % p) (add_comm total (x * y)) ∙ add-mod (x * y) total p
    ∙ ap (λ n. (n + total % p) % p) (sym (guarded_at p (product p) x y hx hy)) ∙ sym (guarded_at p (sum p) (guarded p (product p) x y) (total % p) w v)
