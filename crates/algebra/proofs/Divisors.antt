-- Divisors, coprime elements and greatest common divisors in a commutative ring.
use Rattle.std.proofs.Common.{◌≡◌, ◌⊎◌, [], ◌∷◌, sym, refl, ◌∙◌, inl, inr}
use mathlib.Core.HLevel.{Discrete}
use Rattle.algebra.specs.Ring.{Ring, ring, combine, one_mul, mul_zero, sub_zero→eq}
use Rattle.algebra.specs.Solver.{by_ring, quoting}
use Rattle.algebra.specs.Divisors.{Divides, Invertible, Associates, Coprime, Greatest, Combined}
use Rattle.algebra.specs.Bounded.{Domain, Any}

module _ {E : Type 0} (R : Ring E) where
  open R use {zero as 𝟘, one as 𝟙, add as ◌⊕◌, neg as ⊖◌, mul as ◌⊙◌}

  infixl 60 ◌⊕◌
  infixl 70 ◌⊙◌
  infix 80 ⊖◌
  pub divides_self : (a : E) → Divides R a a
  divides_self a = (𝟙, simp ring)

  pub divides_zero : (a : E) → Divides R a 𝟘
  divides_zero a = (𝟘, simp ring)

  pub divides_eq : {a b c : E} → b ≡ c → Divides R a b → Divides R a c
  divides_eq p (q, e) = (q, sym p ∙ e)

  pub divides_trans : {a b c : E} → Divides R a b → Divides R b c → Divides R a c
  divides_trans {a} {b} {c} (p, e) (q, f) = (p ⊙ q, combine R 𝟙 f (combine R q e (by_ring R (a ∷ b ∷ c ∷ p ∷ q ∷ []) (search quoting depth 30) tt)))

  pub divides_add : {a b c : E} → Divides R a b → Divides R a c → Divides R a (b ⊕ c)
  divides_add {a} {b} {c} (p, e) (q, f) = (p ⊕ q, combine R 𝟙 e (combine R 𝟙 f (by_ring R (a ∷ b ∷ c ∷ p ∷ q ∷ []) (search quoting depth 30) tt)))

  -- a divisor of a sum and of its first part divides the second
  pub divides_rest : {a b c : E} → Divides R a (b ⊕ c) → Divides R a b → Divides R a c
  divides_rest {a} {b} {c} (p, e) (q, f) = (p ⊕ ⊖ q, combine R 𝟙 e (combine R (⊖ 𝟙) f (by_ring R (a ∷ b ∷ c ∷ p ∷ q ∷ []) (search quoting depth 30) tt)))

  pub divides_mul : {a b : E} (c : E) → Divides R a b → Divides R a (b ⊙ c)
  divides_mul {a} {b} c (p, e) = (p ⊙ c, combine R c e (by_ring R (a ∷ b ∷ c ∷ p ∷ []) (search quoting depth 30) tt))

  pub divides_mul_left : {a b : E} (c : E) → Divides R a b → Divides R a (c ⊙ b)
  divides_mul_left {a} {b} c (p, e) = (p ⊙ c, combine R c e (by_ring R (a ∷ b ∷ c ∷ p ∷ []) (search quoting depth 30) tt))

  pub divides_both : {a b c d : E} → Divides R a b → Divides R c d → Divides R (a ⊙ c) (b ⊙ d)
  divides_both {a} {b} {c} {d} (p, e) (q, f) = (p ⊙ q, combine R d e (combine R (a ⊙ p) f (by_ring R (a ∷ b ∷ c ∷ d ∷ p ∷ q ∷ []) (search quoting depth 30) tt)))

  -- Euclid's lemma
  pub coprime_divides : {c a b : E} → Coprime R c a → Divides R c (a ⊙ b) → Divides R c b
  coprime_divides {c} {a} {b} (u, v, e) (q, f) = (b ⊙ u ⊕ v ⊙ q, combine R b e (combine R v f (by_ring R (a ∷ b ∷ c ∷ u ∷ v ∷ q ∷ []) (search quoting depth 30) tt)))

  pub coprime_mul : {c a b : E} → Coprime R c a → Coprime R c b → Coprime R c (a ⊙ b)
  coprime_mul {c} {a} {b} (u, v, e) (s, t, f) = (u ⊕ v ⊙ a ⊙ s, v ⊙ t, combine R 𝟙 e (combine R (v ⊙ a) f (by_ring R (a ∷ b ∷ c ∷ u ∷ v ∷ s ∷ t ∷ []) (search quoting depth 30) tt)))

  -- what is coprime to a multiple of it is a unit
  pub coprime_unit : {c a : E} → Coprime R c a → Divides R c a → Invertible R c
  coprime_unit {c} {a} (u, v, e) (q, f) = (u ⊕ v ⊙ q, combine R 𝟙 e (combine R v f (by_ring R (a ∷ c ∷ u ∷ v ∷ q ∷ []) (search quoting depth 30) tt)))

  -- a common divisor that is a combination is the greatest
  pub combined_greatest : {a b d u v : E} → d ≡ u ⊙ a ⊕ v ⊙ b → Divides R d a → Divides R d b → Greatest R a b d
  combined_greatest {a} {b} {d} {u} {v} c l r = record { left = l; right = r; greatest = λ x p q. divides_eq (sym c) (divides_add (divides_mul_left u p) (divides_mul_left v q)) }

  pub times_unit : {v : E} (a : E) → Invertible R v → Associates R a (a ⊙ v)
  times_unit {v} a (w, e) = ((v, refl), (w, combine R a e (by_ring R (a ∷ v ∷ w ∷ []) (search quoting depth 30) tt)))

  pub greatest_times_unit : {a b g v : E} → Invertible R v → Greatest R a b g → Greatest R a b (g ⊙ v)
  greatest_times_unit {a} {b} {g} {v} w t =
      let back = (times_unit g w).1 in
      record { left = divides_trans back t.left; right = divides_trans back t.right; greatest = λ x p q. divides_mul v (t.greatest x p q) }

  unfoldable pub combined_times_unit : {a b v : E} → Invertible R v → Combined R a b → Combined R a b
  combined_times_unit {a} {b} {v} w g = record { gcd = g.gcd ⊙ v; greatest = greatest_times_unit w g.greatest; u = v ⊙ g.u; v = v ⊙ g.v; combined = combine R v g.combined (by_ring R (a ∷ b ∷ v ∷ g.gcd ∷ g.u ∷ g.v ∷ []) (search quoting depth 30) tt) }

  pub combined_coprime : {a b : E} (g : Combined R a b) → Invertible R g.gcd → Coprime R a b
  combined_coprime {a} {b} g (w, e) = (w ⊙ g.u, w ⊙ g.v, combine R 𝟙 e (combine R w g.combined (by_ring R (a ∷ b ∷ g.gcd ∷ g.u ∷ g.v ∷ w ∷ []) (search quoting depth 30) tt)))

  pub coprime_greatest : {a b : E} → Coprime R a b → Greatest R a b 𝟙
  coprime_greatest {a} {b} (u, v, e) = combined_greatest e (a, sym (one_mul R a)) (b, sym (one_mul R b))

  pub greatest_coprime : {a b : E} → Combined R a b → Greatest R a b 𝟙 → Coprime R a b
  greatest_coprime g t = combined_coprime g (t.greatest g.gcd g.greatest.left g.greatest.right)

  -- in a ring with no zero divisors
  module _ (D : Domain R Any) where
    pub cancel : {a b c : E} → ¬ (a ≡ 𝟘) → a ⊙ b ≡ a ⊙ c → b ≡ c
    cancel {a} {b} {c} n e = go (D.cancel a (b ⊕ ⊖ c) tt tt (combine R 𝟙 e (by_ring R (a ∷ b ∷ c ∷ []) (search quoting depth 30) tt)))
      where
        go : (a ≡ 𝟘) ⊎ (b ⊕ ⊖ c ≡ 𝟘) → b ≡ c
        go (inl z) = absurd (n z)
        go (inr z) = sub_zero→eq R b c z

    pub mul_nonzero : {a b : E} → ¬ (a ≡ 𝟘) → ¬ (b ≡ 𝟘) → ¬ (a ⊙ b ≡ 𝟘)
    mul_nonzero {a} {b} n m e = m (cancel n (e ∙ sym (mul_zero R a)))

    -- elements that divide one another differ by a unit
    pub associates : {a b : E} → ¬ (a ≡ 𝟘) → Divides R a b → (t : Divides R b a) → Invertible R t.0
    associates {a} {b} n (p, f) (q, e) = (p, cancel n (combine R 𝟙 e (combine R q f (by_ring R (a ∷ b ∷ p ∷ q ∷ []) (search quoting depth 30) tt))))

-- a ring with no zero divisors in which any two elements have a greatest common divisor that is a combination of them
pub record BezoutDomain (E : Type 0) : Type 0 where
  pub ring : Ring E
  pub discrete : Discrete E
  pub domain : Domain ring Any
  pub zero≢one : ¬ (ring.zero ≡ ring.one)
  pub gcd : (a b : E) → Combined ring a b
