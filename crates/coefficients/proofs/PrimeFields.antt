-- The residues modulo p are a field exactly when p is prime; a number that passes the test is prime.
use Rattle.std.proofs.Common.{◌≡◌, ℕ, zero, suc, ◌*◌, ◌/◌, ◌%◌, ◌<◌, ◌≤◌, true, not, ◌&&◌, ◌||◌, eqb, ltb, leb, ◌⊎◌, sym, ap, ◌∙◌, subst, inl, inr, ⊎_elim, mul_comm, mul-one, arith}
use Prim.Native.Nat.{◌∣◌}
use native.Mathlib.Nat.{le_of_dvd, pos_of_dvd_of_pos, mod-eq-zero_of_dvd, dvd_refl, dvd-zero, div-add-mod}
use Rattle.std.proofs.lemmas.Bool.{cases_lt, cases_eq, ltb-true, lt-ltb, leb-true, eqb-false, and_parts, or_cases, not-true}
use Rattle.std.proofs.lemmas.Nat.{mul-le}
use Rattle.coefficients.specs.Arithmetic.{IsField}
use Rattle.coefficients.specs.Residue.{modulo}
use Rattle.coefficients.specs.Prime.{Prime, none_divides, prime_test}
use Rattle.coefficients.proofs.Euclid.{Going, going_first, going_end, found_one, shared_none}

pub prime_field : (p : ℕ) → Prime p → IsField (modulo p)
prime_field p prime a inside apart =
    let low : 2 ≤ p = prime.low in
    let ha : a < p = ltb-true a p inside in
    let last = going_end p a low ha a p a 0 1 (omega arith) (going_first p a low ha) in
    let go = last.3 in
    let both = go.divides last.0 (dvd_refl last.0) (dvd-zero last.0) in
    let pos : 0 < a = omega arith in
    let small : last.0 ≤ a = le_of_dvd pos both.0 in
    let one : last.0 ≡ 1 = ⊎_elim (λ e. e) (λ e. absurd (omega arith)) (prime.divisors last.0 both.1) in
    (last.1, lt-ltb last.1 p go.s0_below, found_one p a low ha last.1 last.2 (subst (λ (n : ℕ). Going p a n 0 last.1 last.2) one go))

pub field_prime : (p : ℕ) → 2 ≤ p → IsField (modulo p) → Prime p
field_prime p low field = record { low = low; divisors = λ d h. by d h (cases_eq d 1) (cases_lt d p) }
  where
    by : (d : ℕ) → d ∣ p → (d ≡ 1) ⊎ (d ≡ 1 → ⊥) → (d < p) ⊎ (p ≤ d) → (d ≡ 1) ⊎ (d ≡ p)
    by d h (inl e) s = inl e
    by d h (inr ne) (inl less) =
        let pos : 0 < p = omega arith in
        let some : 0 < d = pos_of_dvd_of_pos h pos in
        let r = field d (lt-ltb d p less) (λ z. omega arith) in
        absurd (shared_none p d low less d (dvd_refl d) h ne r.0 r.2)
    by d h (inr ne) (inr over) =
        let pos : 0 < p = omega arith in
        let small : d ≤ p = le_of_dvd pos h in
        inr (omega arith)

none_at : (p n d : ℕ) → none_divides p n ≡ true → d < n → 2 ≤ d → p % d ≡ 0 → ⊥
none_at p zero d t h k e = omega arith
none_at p (suc n) d t h k e =
    let parts = and_parts (ltb n 2 || not (eqb (p % n) 0)) (none_divides p n) t in
    ⊎_elim
    (λ same.
    ⊎_elim (λ l. omega (arith, ltb-true n 2 l)) (λ q. eqb-false (p % n) 0 (not-true (eqb (p % n) 0) q) (ap (λ m. p % m) (sym same) ∙ e))
    (or_cases (ltb n 2) (not (eqb (p % n) 0)) parts.0))
    (λ ne. none_at p n d parts.1 (omega arith) k e)
    (cases_eq d n)

pub prime_by_test : (n p : ℕ) → prime_test n p ≡ true → Prime p
prime_by_test n p t = record { low = low; divisors = λ d h. by d (p / d) (let z = mod-eq-zero_of_dvd d h in omega (arith, div-add-mod p d)) }
  where
    parts : ((leb 2 p && ltb p (n * n)) ≡ true) × (none_divides p n ≡ true)
    parts = and_parts (leb 2 p && ltb p (n * n)) (none_divides p n) t

    bounds : (leb 2 p ≡ true) × (ltb p (n * n) ≡ true)
    bounds = and_parts (leb 2 p) (ltb p (n * n)) parts.0

    low : 2 ≤ p
    low = leb-true 2 p bounds.0

    high : p < n * n
    high = ltb-true p (n * n) bounds.1

    -- a divisor below n is 1
    one : (d : ℕ) → d ∣ p → d < n → d ≡ 1
    one d h l =
        let pos : 0 < p = omega (arith, low) in
        let some : 0 < d = pos_of_dvd_of_pos h pos in
        ⊎_elim (λ e. e) (λ ne. absurd (none_at p n d parts.1 l (omega arith) (mod-eq-zero_of_dvd d h))) (cases_eq d 1)

    -- and one that is not leaves such a divisor
    by : (d e : ℕ) → p ≡ d * e → (d ≡ 1) ⊎ (d ≡ p)
    by d e is =
        ⊎_elim (λ l. inl (one d (∣ (e, is) ∣₁) l))
        (λ up.
        let less : e < n = ⊎_elim (λ l. l) (λ m. absurd (let le = mul-le n n d e up m in omega (arith, high, is))) (cases_lt e n) in
        let unit : e ≡ 1 = one e (∣ (d, is ∙ mul_comm d e) ∣₁) less in
        inr (sym (is ∙ ap (λ m. d * m) unit ∙ mul-one d)))
        (cases_lt d n)
