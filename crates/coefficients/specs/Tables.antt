-- Tables of powers and logarithms, each proved by one test that antt computes.
use Rattle.std.specs.Prelude.{◌≡◌, ℕ, zero, suc, ◌+◌, ◌<◌, Bool, true, false, ◌&&◌, ◌||◌, List, [], ◌∷◌, length, ◌==◌, nat_lt, slice_index, refl}
use Rattle.std.proofs.Common.{sym, ap, ◌∙◌, ⊎_elim, arith}
use Rattle.std.proofs.lemmas.Bool.{and_parts, or_cases, eqb-true, ltb-true}
use Rattle.coefficients.specs.Byte.{times, power_of}

-- each entry is three times the one before, and the first is x
abbrev pub chained : ℕ → List ℕ → Bool
chained x [] = true
chained x (y ∷ ys) = y == x && chained (times 8 y 3) ys

chained_at : (x : ℕ) (xs : List ℕ) → chained x xs ≡ true → (j : ℕ) → x ≡ power_of j → (k m : ℕ) → k < length xs → m ≡ j + k → slice_index xs k ≡ power_of m
unfolding power_of
chained_at x [] t j e k m h s = absurd (omega arith)
chained_at x (y ∷ ys) t j e zero m h s =
    let parts = and_parts (y == x) (chained (times 8 y 3) ys) t in
    let same : m ≡ j = omega arith in
    eqb-true y x parts.0 ∙ e ∙ ap power_of (sym same)
chained_at x (y ∷ ys) t j e (suc k) m h s =
    let parts = and_parts (y == x) (chained (times 8 y 3) ys) t in
    let same : m ≡ suc j + k = omega arith in
    chained_at (times 8 y 3) ys parts.1 (suc j) (ap (λ z. times 8 z 3) (eqb-true y x parts.0 ∙ e)) k m (omega arith) same

pub power_at : (xs : List ℕ) → chained 1 xs ≡ true → (k : ℕ) → k < length xs → slice_index xs k ≡ power_of k
unfolding power_of
power_at xs t k h = let e : k ≡ 0 + k = omega arith in chained_at 1 xs t 0 refl k k h e

-- the powers, each computed once
abbrev pub powers_from : ℕ → ℕ → List ℕ
powers_from zero x = []
powers_from (suc n) x = x ∷ powers_from n (times 8 x 3)

-- the place of a among the powers, counted from i, or 0
abbrev pub place_of : ℕ → ℕ → List ℕ → ℕ
place_of a i [] = 0
place_of a i (x ∷ xs) = elim (x == a) [ true ↦ i | false ↦ place_of a (suc i) xs ]

abbrev pub logs_from : List ℕ → ℕ → ℕ → List ℕ
logs_from xs zero a = []
logs_from xs (suc n) a = place_of a 0 xs ∷ logs_from xs n (suc a)

-- each entry but the first is the place of its own place among the powers
abbrev logged : List ℕ → ℕ → List ℕ → Bool
logged xs a [] = true
logged xs a (l ∷ ls) = (nat_lt l (length xs) && (a == 0 || slice_index xs l == a)) && logged xs (suc a) ls

logged_at : (xs : List ℕ) (a : ℕ) (ls : List ℕ) → logged xs a ls ≡ true → (k m : ℕ) → k < length ls → m ≡ a + k → (slice_index ls k < length xs) × (0 < m → slice_index xs (slice_index ls k) ≡ m)
logged_at xs a [] t k m h s = absurd (omega arith)
logged_at xs a (l ∷ ls) t zero m h s =
    let here = (and_parts (nat_lt l (length xs) && (a == 0 || slice_index xs l == a)) (logged xs (suc a) ls) t).0 in
    let parts = and_parts (nat_lt l (length xs)) (a == 0 || slice_index xs l == a) here in
    let same : m ≡ a = omega arith in (
      ltb-true l (length xs) parts.0,
      λ pos. ⊎_elim (λ z. absurd (omega (arith, eqb-true a 0 z))) (λ e. eqb-true (slice_index xs l) a e ∙ sym same) (or_cases (a == 0) (slice_index xs l == a) parts.1),
    )
logged_at xs a (l ∷ ls) t (suc k) m h s =
    let on = (and_parts (nat_lt l (length xs) && (a == 0 || slice_index xs l == a)) (logged xs (suc a) ls) t).1 in
    logged_at xs (suc a) ls on k m (omega arith) (omega arith)

pub log_at : (xs ls : List ℕ) → chained 1 xs ≡ true → logged xs 0 ls ≡ true → (a : ℕ) → a < length ls → (slice_index ls a < length xs) × (0 < a → power_of (slice_index ls a) ≡ a)
log_at xs ls t u a h =
    let e : a ≡ 0 + a = omega arith in
    let both = logged_at xs 0 ls u a a h e in
    (both.0, λ pos. sym (power_at xs t (slice_index ls a) both.0) ∙ both.1 pos)
