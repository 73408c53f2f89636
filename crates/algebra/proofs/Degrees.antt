-- Coefficients, sizes and leading coefficients of polynomials over a ring. With no zero divisors in the ring, sizes add up, leading coefficients multiply, and polynomials have no zero divisors either.
use Rattle.std.proofs.Common.{◌≡◌, ℕ, zero, suc, pred, ◌+◌, ◌≤◌, ◌⊎◌, sym, refl, ap, ◌∙◌, ap₂, inl, inr, arith}
use mathlib.Core.Path.{fun_ext}
use mathlib.Core.HLevel.{Discrete}
use Rattle.algebra.specs.Ring.{Ring, ring, add_neg, mul_zero, zero_mul, mul_one}
use Rattle.algebra.specs.Divisors.{Divides}
use Rattle.algebra.specs.Series.{Series, series, const, cons, cons_suc, at_zero, at_one, at_add, at_neg, at_const, at_const_mul}
use Rattle.algebra.specs.Bounded.{Below, Domain, Any, below_cons, below_less, below_at, below_more, below_const, one_below, lead as lead-mul}
use Rattle.algebra.specs.Polynomial.{Poly, poly, make, make_is, same, size, size_least, of_zero, of_add, of_neg, of_mul, zero?}
use Rattle.algebra.specs.Change.{number, of_number, number_mul}
use Rattle.algebra.specs.Lead.{lead}
use Rattle.algebra.proofs.Euclid.{size_zero, size_mul}

module _ {E : Type 0} (R : Ring E) (eq : Discrete E) where
  open R use {zero as 𝟘, one as 𝟙, add as ◌⊕◌, neg as ⊖◌, mul as ◌⊙◌}
  open poly R eq use {zero as 𝟎, one as 𝟏, add as ◌⊞◌, neg as ⊟◌, mul as ◌⊠◌}

  infixl 60 ◌⊕◌
  infixl 70 ◌⊙◌
  infix 80 ⊖◌
  infixl 60 ◌⊞◌
  infixl 70 ◌⊠◌
  infix 80 ⊟◌
  pub coef_zero : (k : ℕ) → 𝟎.0 k ≡ 𝟘
  coef_zero k = ap (λ f. f k) (of_zero R eq) ∙ at_zero R k

  pub coef_add : (p q : Poly R) (k : ℕ) → (p ⊞ q).0 k ≡ p.0 k ⊕ q.0 k
  coef_add p q k = ap (λ f. f k) (of_add R eq p q) ∙ at_add R p.0 q.0 k

  pub coef_neg : (p : Poly R) (k : ℕ) → (⊟ p).0 k ≡ ⊖ p.0 k
  coef_neg p k = ap (λ f. f k) (of_neg R eq p) ∙ at_neg R p.0 k

  pub of_scale : (c : E) (p : Poly R) → (number R eq c ⊠ p).0 ≡ (series R).mul (const R c) p.0
  of_scale c p = of_mul R eq (number R eq c) p ∙ ap (λ f. (series R).mul f p.0) (of_number R eq c)

  pub coef_scale : (c : E) (p : Poly R) (k : ℕ) → (number R eq c ⊠ p).0 k ≡ c ⊙ p.0 k
  coef_scale c p k = ap (λ f. f k) (of_scale c p) ∙ at_const_mul R c p.0 k

  pub coef_mul : (m n : ℕ) (p q : Poly R) → Below R (suc m) p.0 → Below R (suc n) q.0 → (p ⊠ q).0 (m + n) ≡ p.0 m ⊙ q.0 n
  coef_mul m n p q b c = ap (λ f. f (m + n)) (of_mul R eq p q) ∙ lead-mul R m n p.0 q.0 b c

  pub below_product : (m n k : ℕ) (p q : Poly R) → Below R m p.0 → Below R n q.0 → m + n ≤ suc k → Below R k (p ⊠ q).0
  below_product m n k p q b c le j lj = ap (λ f. f j) (of_mul R eq p q) ∙ below_at R m n p.0 q.0 b c j (omega arith)

  pub below_difference : (n : ℕ) (p q : Poly R) → Below R n p.0 → Below R n q.0 → Below R n (p ⊞ ⊟ q).0
  below_difference n p q b c k le = coef_add p (⊟ q) k ∙ ap₂ ◌⊕◌ (b k le) (coef_neg q k ∙ ap ⊖◌ (c k le)) ∙ simp ring

  -- the difference of two polynomials with one leading term
  pub size_difference : (m : ℕ) (p q : Poly R) → Below R (suc m) p.0 → Below R (suc m) q.0 → p.0 m ≡ q.0 m → size R (p ⊞ ⊟ q) ≤ m
  size_difference m p q b c e = size_least R (p ⊞ ⊟ q) m (below_less R m _ (below_difference (suc m) p q b c) (coef_add p (⊟ q) m ∙ ap₂ ◌⊕◌ e (coef_neg q m) ∙ add_neg R _))

  -- the degree of a polynomial that is not zero
  pub record Leading (p : Poly R) : Type 0 where
    pub deg : ℕ
    pub is_size : size R p ≡ suc deg
    pub below : Below R (suc deg) p.0
    pub nonzero : ¬ (p.0 deg ≡ 𝟘)

  pub leading : (p : Poly R) → ¬ (p ≡ 𝟎) → Leading p
  leading (f, (zero, t)) n = absurd (n (size_zero R eq (f, (zero, t)) refl))
  leading (f, (suc m, (b, t))) n = record { deg = m; is_size = refl; below = b; nonzero = t }

  pub below_size : (p : Poly R) (n : ℕ) → size R p ≤ n → Below R n p.0
  below_size p n le = below_more R (size R p) n p.0 le p.1.1.0

  power_series : ℕ → Series E
  power_series zero = (series R).one
  power_series (suc m) = cons 𝟘 (power_series m)

  power_below : (m : ℕ) → Below R (suc m) (power_series m)
  unfolding power_series
  power_below zero = one_below R
  power_below (suc m) = below_cons R (suc m) 𝟘 (power_series m) (power_below m)

  power_top : (m : ℕ) → power_series m m ≡ 𝟙
  unfolding power_series
  power_top zero = at_one R
  power_top (suc m) = cons_suc 𝟘 (power_series m) m ∙ power_top m

  -- the polynomial x^m
  pub power : ℕ → Poly R
  power m = make R eq (suc m) (power_series m) (power_below m)

  of_power : (m : ℕ) → (power m).0 ≡ power_series m
  unfolding power
  of_power m = make_is R eq _ _ _

  -- the polynomial c x^m
  abbrev pub term : E → ℕ → Poly R
  term c m = number R eq c ⊠ power m

  pub term_below : (c : E) (m : ℕ) → Below R (suc m) (term c m).0
  term_below c m k le = coef_scale c (power m) k ∙ ap (λ x. c ⊙ x) (ap (λ f. f k) (of_power m) ∙ power_below m k le) ∙ mul_zero R c

  pub term_top : (c : E) (m : ℕ) → (term c m).0 m ≡ c
  term_top c m = coef_scale c (power m) m ∙ ap (λ x. c ⊙ x) (ap (λ f. f m) (of_power m) ∙ power_top m) ∙ mul_one R c

  -- a polynomial without its leading term
  pub without_lead : (p : Poly R) (m : ℕ) → Below R (suc m) p.0 → size R (p ⊞ ⊟ term (p.0 m) m) ≤ m
  without_lead p m b = size_difference m p (term (p.0 m) m) b (term_below (p.0 m) m) (sym (term_top (p.0 m) m))

  pub size_of_zero : size R 𝟎 ≡ 0
  size_of_zero =
      let le : size R 𝟎 ≤ 0 = size_least R 𝟎 0 (λ k le. coef_zero k) in
      omega arith

  pub lead_at : (p : Poly R) (m : ℕ) → size R p ≡ suc m → lead R p ≡ p.0 m
  lead_at p m e = let i : pred (size R p) ≡ m = omega arith in ap p.0 i

  pub lead_of_zero : (p : Poly R) → p ≡ 𝟎 → lead R p ≡ 𝟘
  lead_of_zero p z = ap (lead R) z ∙ coef_zero _

  module _ (D : Domain R Any) where
    pub size_product : (p q : Poly R) → ¬ (p ≡ 𝟎) → ¬ (q ≡ 𝟎) → suc (size R (p ⊠ q)) ≡ size R p + size R q
    size_product p q np nq = size_mul R eq D (λ a. tt) p q np nq

    -- leading coefficients multiply
    pub lead_product : (p q : Poly R) → lead R (p ⊠ q) ≡ lead R p ⊙ lead R q
    lead_product p q = go (zero? R eq p) (zero? R eq q)
      where
        go : Dec (p ≡ 𝟎) → Dec (q ≡ 𝟎) → lead R (p ⊠ q) ≡ lead R p ⊙ lead R q
        go (yes z) d = lead_of_zero (p ⊠ q) (ap (λ x. x ⊠ q) z ∙ zero_mul (poly R eq) q) ∙ sym (ap (λ a. a ⊙ lead R q) (lead_of_zero p z) ∙ zero_mul R _)
        go (no n) (yes z) = lead_of_zero (p ⊠ q) (ap (λ x. p ⊠ x) z ∙ mul_zero (poly R eq) p) ∙ sym (ap (λ a. lead R p ⊙ a) (lead_of_zero q z) ∙ mul_zero R _)
        go (no n) (no k) =
            let l = leading p n in
            let m = leading q k in
            let s = size_product p q n k in
            let top : size R (p ⊠ q) ≡ suc (l.deg + m.deg) = omega arith in
            lead_at (p ⊠ q) _ top ∙ coef_mul l.deg m.deg p q l.below m.below ∙ sym (ap₂ ◌⊙◌ (lead_at p _ l.is_size) (lead_at q _ m.is_size))

    pub poly_domain : Domain (poly R eq) Any
    poly_domain = record { zero? = λ p u. zero? R eq p; cancel = λ p q u v e. go p q e (zero? R eq p) (zero? R eq q) }
      where
        go : (p q : Poly R) → p ⊠ q ≡ 𝟎 → Dec (p ≡ 𝟎) → Dec (q ≡ 𝟎) → (p ≡ 𝟎) ⊎ (q ≡ 𝟎)
        go p q e (yes z) d = inl z
        go p q e (no n) (yes z) = inr z
        go p q e (no n) (no k) =
            let s = size_product p q n k in
            let z = ap (size R) e ∙ size_of_zero in
            let l = (leading p n).is_size in
            let r = (leading q k).is_size in
            absurd (omega arith)

  pub number_coef : (c : E) → (number R eq c).0 0 ≡ c
  number_coef c = ap (λ f. f 0) (of_number R eq c) ∙ at_const R c

  pub number_below : (c : E) → Below R 1 (number R eq c).0
  number_below c k le = ap (λ f. f k) (of_number R eq c) ∙ below_const R c k le

  pub number_nonzero : (c : E) → ¬ (c ≡ 𝟘) → ¬ (number R eq c ≡ 𝟎)
  number_nonzero c n e = n (sym (number_coef c) ∙ ap (λ (p : Poly R). p.0 0) e ∙ coef_zero 0)

  pub number_divides : {a b : E} → Divides R a b → Divides (poly R eq) (number R eq a) (number R eq b)
  number_divides {a} (q, e) = (number R eq q, ap (number R eq) e ∙ number_mul R eq a q)

  pub number_size : (c : E) → ¬ (c ≡ 𝟘) → size R (number R eq c) ≡ 1
  number_size c n =
      let le = size_least R (number R eq c) 1 (number_below c) in
      let l = (leading (number R eq c) (number_nonzero c n)).is_size in
      omega arith

  -- a polynomial of size at most 1 is a constant
  pub constant_is : (p : Poly R) → size R p ≤ 1 → p ≡ number R eq (p.0 0)
  constant_is p le = same R eq (fun_ext (elim [ zero ↦ sym (number_coef (p.0 0)) | suc k ↦ below_size p 1 le (suc k) (omega arith) ∙ sym (number_below (p.0 0) (suc k) (omega arith)) ]))

  pub size_scale : Domain R Any → (c : E) (p : Poly R) → ¬ (c ≡ 𝟘) → ¬ (p ≡ 𝟎) → size R (number R eq c ⊠ p) ≡ size R p
  size_scale D c p n k =
      let s = size_product D (number R eq c) p (number_nonzero c n) k in
      let z = number_size c n in
      omega arith
