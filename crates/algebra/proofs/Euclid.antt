-- Sizes of products, division with remainder over a field, and Euclid's algorithm, which finds a greatest common divisor as a combination.
use Rattle.std.proofs.Common.{◌≡◌, ℕ, zero, suc, ◌+◌, ◌≤◌, [], ◌∷◌, sym, refl, ap, ◌∙◌, ap₂, ⊎_elim, arith}
use mathlib.Core.HLevel.{Discrete}
use Rattle.algebra.specs.Ring.{Ring, ring, combine}
use Rattle.algebra.specs.Solver.{by_ring, quoting}
use Rattle.algebra.specs.Divisors.{Divides, Combined}
use Rattle.algebra.specs.Series.{series}
use Rattle.algebra.specs.Bounded.{Domain, below_zero, below_at, lead}
use Rattle.algebra.specs.Polynomial.{Poly, poly, make, make_is, same, size, size_least, size_unique, of_zero, of_add, of_mul, zero?}
use Rattle.algebra.specs.Field.{Field}
use Rattle.algebra.specs.OneUnknown.{Quotient}
use Rattle.algebra.proofs.Divide.{divide}
use Rattle.algebra.proofs.Divisors.{divides_self, divides_zero, divides_eq, divides_add, divides_mul_left, combined_greatest}

module _ {E : Type 0} (R : Ring E) (eq : Discrete E) where
  open poly R eq use {zero as 𝟘, mul as ◌⊙◌}

  infixl 70 ◌⊙◌
  pub size_zero : (p : Poly R) → size R p ≡ 0 → p ≡ 𝟘
  size_zero p e = same R eq (below_zero R p.0 (λ k le. p.1.1.0 k (omega arith)) ∙ sym (of_zero R eq))

  pub size_mul : {P : E → Type 0} → Domain R P → ((a : E) → P a) → (p q : Poly R) → ¬ (p ≡ 𝟘) → ¬ (q ≡ 𝟘) → suc (size R (p ⊙ q)) ≡ size R p + size R q
  size_mul D all p q np nq = go p q np nq (p ⊙ q) (of_mul R eq p q)
    where
      go : (p q : Poly R) → ¬ (p ≡ 𝟘) → ¬ (q ≡ 𝟘) → (s : Poly R) → s.0 ≡ (series R).mul p.0 q.0 → suc (size R s) ≡ size R p + size R q
      go (f, (zero, t)) q np nq s e = absurd (np (size_zero (f, (zero, t)) refl))
      go (f, (suc m, t)) (g, (zero, u)) np nq s e = absurd (nq (size_zero (g, (zero, u)) refl))
      go (f, (suc m, (b, t))) (g, (suc n, (c, u))) np nq s e =
          let grown : size R s ≡ suc (m + n) = size_unique R s.0 (size R s) (suc (m + n)) s.1.1.0 s.1.1.1 (λ k le. ap (λ h. h k) e ∙ below_at R (suc m) (suc n) f g b c k (omega arith)) (λ z. ⊎_elim t u (D.cancel _ _ (all _) (all _) (sym (lead R m n f g b c) ∙ ap (λ h. h (m + n)) (sym e) ∙ z))) in
          omega arith

module _ {E : Type 0} (F : Field E) where
  open F use {ring as K, discrete as eq}
  open poly K eq use {zero as 𝟘, one as 𝟙, add as ◌⊕◌, neg as ⊖◌, mul as ◌⊙◌}

  infixl 60 ◌⊕◌
  infixl 70 ◌⊙◌
  infix 80 ⊖◌
  pub quotient : (p q : Poly K) → ¬ (q ≡ 𝟘) → Quotient F p q
  quotient p (g, (zero, t)) n = absurd (n (size_zero K eq (g, (zero, t)) refl))
  quotient p (g, (suc d, (b, t))) n =
      let div = divide F g d b t (size K p) p.0 p.1.1.0 in
      let q : Poly K = (g, (suc d, (b, t))) in
      let s = make K eq div.quo_bounded.0 div.quo div.quo_bounded.1 in
      let of_s = make_is K eq div.quo_bounded.0 div.quo div.quo_bounded.1 in
      let r = make K eq d div.rem div.rem_below in
      let of_r = make_is K eq d div.rem div.rem_below in
      let small : size K r ≤ d = size_least K r d (rw of_r div.rem_below) in
      record { quo = s; rem = r; is = same K eq (div.is ∙ sym (of_add K eq (s ⊙ q) r ∙ ap₂ (series K).add (of_mul K eq s q ∙ ap (λ h. (series K).mul h g) of_s) of_r)); less = omega arith }

  trivial : (p q : Poly K) → q ≡ 𝟘 → Combined (poly K eq) p q
  trivial p q e = record { gcd = p; greatest = combined_greatest (poly K eq) is (divides_self (poly K eq) p) (divides_eq (poly K eq) (sym e) (divides_zero (poly K eq) p)); u = 𝟙; v = 𝟘; combined = is }
    where
      is : p ≡ 𝟙 ⊙ p ⊕ 𝟘 ⊙ q
      is = simp ring

  step : (p q : Poly K) (t : Quotient F p q) → Combined (poly K eq) q t.rem → Combined (poly K eq) p q
  step p q t g = record { gcd = g.gcd; greatest = combined_greatest (poly K eq) is divides g.greatest.left; u = g.v; v = g.u ⊕ ⊖ (g.v ⊙ t.quo); combined = is }
    where
      is : g.gcd ≡ g.v ⊙ p ⊕ (g.u ⊕ ⊖ (g.v ⊙ t.quo)) ⊙ q
      is = g.combined ∙ combine (poly K eq) (⊖ g.v) t.is (by_ring (poly K eq) (g.u ∷ g.v ∷ t.quo ∷ t.rem ∷ p ∷ q ∷ []) (search quoting depth 30) tt)

      divides : Divides (poly K eq) g.gcd p
      divides = divides_eq (poly K eq) (sym t.is) (divides_add (poly K eq) (divides_mul_left (poly K eq) t.quo g.greatest.left) g.greatest.right)

  euclid : (n : ℕ) (p q : Poly K) → size K q ≤ n → Combined (poly K eq) p q
  euclid zero p q le = trivial p q (size_zero K eq q (omega arith))
  euclid (suc n) p q le = go (euclid n q) (zero? K eq q)
    where
      go : ((r : Poly K) → size K r ≤ n → Combined (poly K eq) q r) → Dec (q ≡ 𝟘) → Combined (poly K eq) p q
      go ih (yes e) = trivial p q e
      go ih (no ne) =
          let t = quotient p q ne in
          let l = t.less in
          step p q t (ih t.rem (omega arith))

  -- any two polynomials have a greatest common divisor that is a combination of them
  pub combination : (p q : Poly K) → Combined (poly K eq) p q
  combination p q = euclid (size K q) p q (omega arith)
