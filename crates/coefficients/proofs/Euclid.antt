-- Euclid's algorithm on p and a, with the factor of a kept beside each remainder.
use Rattle.std.proofs.Common.{◌≡◌, ℕ, zero, suc, ◌+◌, ◌-◌, ◌*◌, ◌/◌, ◌%◌, ◌<◌, ◌≤◌, sym, ap, ◌∙◌, subst, ⊎_elim, mod-lt, mod-eq_of_lt, mul_assoc, mul_comm, add-mul, mul-one, mul-add, arith}
use Prim.Native.Nat.{◌∣◌}
use native.Mathlib.Nat.{mod-add-mod, add-mod-mod, add-mod_right, mod_self, mod-add-div', div-add-mod, add-mul-mod_self_left, dvd-mod_iff, dvd-zero, dvd_refl, dvd-mul_right_of_dvd, eq-one_of_dvd-one}
use Rattle.std.proofs.lemmas.Bool.{cases_eq}
use Rattle.coefficients.specs.Below.{guarded}
use Rattle.coefficients.specs.Residue.{product}
use Rattle.coefficients.specs.BelowLemmas.{guarded_at, guarded_some}
use Rattle.std.proofs.lemmas.Nat.{mul-mod_first, mul-mod_second}

-- what holds as each turn begins: r0 and r1 are s0 and s1 times a, and share their divisors with p and a
pub record Going (p a r0 r1 s0 s1 : ℕ) : Type 0 where
  pub r0_within : r0 ≤ p
  pub r1_below : r1 < p
  pub s0_below : s0 < p
  pub s1_below : s1 < p
  pub first : (s0 * a) % p ≡ r0 % p
  pub second : (s1 * a) % p ≡ r1 % p
  pub divides : (d : ℕ) → d ∣ r0 → d ∣ r1 → (d ∣ a) × (d ∣ p)

mod_cancel : (p x y c : ℕ) → 0 < p → (x + c) % p ≡ (y + c) % p → x % p ≡ y % p
mod_cancel p x y c pos e = sym (back x) ∙ ap (λ n. (n + rest) % p) e ∙ back y
  where
    rest : ℕ
    rest = p - c % p

    whole : c + rest ≡ p * (c / p + 1)
    whole =
        let l : c % p < p = mod-lt c pos in
        let m : p * (c / p + 1) ≡ p * (c / p) + p * 1 = mul-add p (c / p) 1 in
        let o : p * 1 ≡ p = mul-one p in
        omega (arith, div-add-mod c p)

    back : (z : ℕ) → ((z + c) % p + rest) % p ≡ z % p
    back z =
        let g : (z + c) + rest ≡ z + p * (c / p + 1) = omega (arith, whole) in
        mod-add-mod (z + c) p rest ∙ ap (λ n. n % p) g ∙ add-mul-mod_self_left z p (c / p + 1)

module _ (p a : ℕ) (low : 2 ≤ p) (ha : a < p) where
  pub going_first : Going p a p a 0 1
  going_first = record {
    r0_within = omega arith;
    r1_below = ha;
    s0_below = omega arith;
    s1_below = omega arith;
    first = (let e : 0 * a ≡ 0 = omega arith in ap (λ n. n % p) e ∙ mod-eq_of_lt (omega arith) ∙ sym (mod_self p));
    second = (let e : 1 * a ≡ a = omega arith in ap (λ n. n % p) e);
    divides = λ d h k. (k, h);
  }

  module _ (r0 r1 s0 s1 : ℕ) (go : Going p a r0 r1 s0 s1) (more : 0 < r1) where
    -- the next factor and the quotient times s1 make s0
    returned : (((s0 + p) - ((r0 / r1) * s1) % p) % p + (r0 / r1) * s1) % p ≡ s0 % p
    returned =
        let t : ℕ = ((r0 / r1) * s1) % p in
        let l : t < p = mod-lt ((r0 / r1) * s1) (omega arith) in
        let e : ((s0 + p) - t) + t ≡ s0 + p = omega arith in
        mod-add-mod ((s0 + p) - t) p ((r0 / r1) * s1) ∙ sym (add-mod-mod ((s0 + p) - t) ((r0 / r1) * s1) p) ∙ ap (λ n. n % p) e ∙ add-mod_right s0 p

    -- the quotient times r1, with s1 * a for r1
    multiple : ((r0 / r1) * r1) % p ≡ ((r0 / r1) * (s1 * a)) % p
    multiple = sym (mul-mod_second (r0 / r1) r1 p) ∙ ap (λ n. ((r0 / r1) * n) % p) (sym go.second) ∙ mul-mod_second (r0 / r1) (s1 * a) p

    third : ((((s0 + p) - ((r0 / r1) * s1) % p) % p) * a) % p ≡ (r0 % r1) % p
    third =
        let s : ℕ = ((s0 + p) - ((r0 / r1) * s1) % p) % p in
        let q : ℕ = r0 / r1 in
        let grouped : s * a + q * (s1 * a) ≡ (s + q * s1) * a = sym (add-mul s (q * s1) a ∙ ap (λ n. s * a + n) (mul_assoc q s1 a)) in
        mod_cancel p (s * a) (r0 % r1) (q * r1) (omega arith)
        (sym (add-mod-mod (s * a) (q * r1) p)
        ∙ ap (λ n. (s * a + n) % p) multiple
        ∙ add-mod-mod (s * a) (q * (s1 * a)) p
        ∙ ap (λ n. n % p) grouped
        ∙ sym (mul-mod_first (s + q * s1) a p)
        ∙ ap (λ n. (n * a) % p) returned
        ∙ mul-mod_first s0 a p
        ∙ go.first
        ∙ ap (λ n. n % p) (sym (mod-add-div' r0 r1)))

    pub going_more : Going p a r1 (r0 % r1) s1 (((s0 + p) - ((r0 / r1) * s1) % p) % p)
    going_more = record {
      r0_within = omega (arith, go.r1_below);
      r1_below = (let l : r0 % r1 < r1 = mod-lt r0 more in omega (arith, go.r1_below));
      s0_below = go.s1_below;
      s1_below = mod-lt _ (omega arith);
      first = go.second;
      second = third;
      divides = λ d h k. go.divides d ((dvd-mod_iff d h).0 k) h;
    }

  -- the algorithm ends
  pub going_end : (n r0 r1 s0 s1 : ℕ) → r1 ≤ n → Going p a r0 r1 s0 s1 → (r : ℕ) × (s : ℕ) × (t : ℕ) × Going p a r 0 s t
  going_end zero r0 r1 s0 s1 h go = (r0, s0, s1, subst (λ (n : ℕ). Going p a r0 n s0 s1) (omega arith) go)
  going_end (suc n) r0 r1 s0 s1 h go =
      ⊎_elim (λ e. (r0, s0, s1, subst (λ (n : ℕ). Going p a r0 n s0 s1) e go))
      (λ e.
      let more : 0 < r1 = omega arith in
      let less : r0 % r1 < r1 = mod-lt r0 more in
      going_end n r1 (r0 % r1) s1 _ (omega arith) (going_more r0 r1 s0 s1 go more))
      (cases_eq r1 0)

  -- it ends at 1: the factor is a reciprocal
  pub found_one : (s0 s1 : ℕ) → Going p a 1 0 s0 s1 → guarded p (product p) a s0 ≡ 1
  found_one s0 s1 go = guarded_at p (product p) a s0 ha go.s0_below ∙ ap (λ n. n % p) (mul_comm a s0) ∙ go.first ∙ mod-eq_of_lt (omega arith)

  -- what divides a and p and is not 1 leaves no reciprocal
  pub shared_none : (d : ℕ) → d ∣ a → d ∣ p → (d ≡ 1 → ⊥) → (x : ℕ) → guarded p (product p) a x ≡ 1 → ⊥
  shared_none d da dp ne x e =
      let inside = guarded_some p (product p) a x 0 e in
      let at = guarded_at p (product p) a x inside.0 inside.1 in
      let rest = (dvd-mod_iff d dp).1 (dvd-mul_right_of_dvd d da x) in
      ne (eq-one_of_dvd-one (subst (λ n. d ∣ n) (sym at ∙ e) rest))

  pub found_none : (r0 s0 s1 : ℕ) → Going p a r0 0 s0 s1 → (r0 ≡ 1 → ⊥) → (x : ℕ) → guarded p (product p) a x ≡ 1 → ⊥
  found_none r0 s0 s1 go ne x e =
      let both = go.divides r0 (dvd_refl r0) (dvd-zero r0) in
      shared_none r0 both.0 both.1 ne x e
