-- Division with remainder by a series with a bound, over a field.
use Rattle.std.proofs.Common.{◌≡◌, ℕ, zero, suc, ◌≤◌, [], ◌∷◌, sym, ap, ◌∙◌, arith}
use native.Mathlib.Decide.{ℕ_discrete}
use Rattle.algebra.specs.Ring.{ring, mul_assoc}
use Rattle.algebra.specs.Solver.{by_ring, quoting}
use Rattle.algebra.specs.Series.{Series, tail, series, cons, const, cons_tail, cons_is, cons_suc, at_add, at_neg, at_const_mul}
use Rattle.algebra.specs.Bounded.{Below, Bounded, below_tail, below_zero, zero_below, below_cons}
use Rattle.algebra.specs.Field.{Field, inv_mul}

module _ {E : Type 0} (F : Field E) where
  open F use {ring as K, inv}
  open K use {zero as 𝟘, add as ◌⊕◌, neg as ⊖◌, mul as ◌⊙◌}
  open series K use {zero as 𝟎, add as ◌⊞◌, neg as ⊟◌, mul as ◌⊠◌}

  infixl 60 ◌⊕◌
  infixl 70 ◌⊙◌
  infix 80 ⊖◌
  infixl 60 ◌⊞◌
  infixl 70 ◌⊠◌
  infix 80 ⊟◌
  -- f is a multiple of g and a remainder of degree below d
  pub record Divided (f g : Series E) (d : ℕ) : Type 0 where
    pub quo : Series E
    pub rem : Series E
    pub is : f ≡ quo ⊠ g ⊞ rem
    pub quo_bounded : Bounded K quo
    pub rem_below : Below K d rem

  regroup : (a x q g r c : Series E) → a ⊞ x ⊠ (q ⊠ g ⊞ r) ≡ (c ⊞ x ⊠ q) ⊠ g ⊞ (a ⊞ x ⊠ r ⊞ ⊟ (c ⊠ g))
  regroup a x q g r c = by_ring (series K) (a ∷ x ∷ q ∷ g ∷ r ∷ c ∷ []) (search quoting depth 30) tt

  cancels : (a b : E) → ¬ (b ≡ 𝟘) → a ⊕ ⊖ (a ⊙ inv b ⊙ b) ≡ 𝟘
  cancels a b n = rw (mul_assoc K a (inv b) b, inv_mul F b n) (simp ring)

  module _ (g : Series E) (d : ℕ) (gb : Below K (suc d) g) (gn : ¬ (g d ≡ 𝟘)) where
    -- from a division of the tail: the new constant of the quotient takes away what is left at d
    step : (f : Series E) → Divided (tail f) g d → Divided f g d
    step f t = record { quo = cons c t.quo; rem = r ⊞ ⊟ (const K c ⊠ g); is = is; quo_bounded = (suc t.quo_bounded.0, below_cons K _ c t.quo t.quo_bounded.1); rem_below = λ k le. below k (ℕ_discrete k d) le }
      where
        r : Series E
        r = cons (f zero) t.rem

        c : E
        c = r d ⊙ inv (g d)

        is : f ≡ cons c t.quo ⊠ g ⊞ (r ⊞ ⊟ (const K c ⊠ g))
        is = sym (cons_tail f) ∙ ap (cons (f zero)) t.is ∙ rw (cons_is K (f zero) (t.quo ⊠ g ⊞ t.rem), cons_is K c t.quo, cons_is K (f zero) t.rem) (regroup _ _ _ _ _ _)

        coefficient : (k : ℕ) → (r ⊞ ⊟ (const K c ⊠ g)) k ≡ r k ⊕ ⊖ (c ⊙ g k)
        coefficient k = simp (at_add, at_neg, at_const_mul)

        below : (k : ℕ) → Dec (k ≡ d) → d ≤ k → (r ⊞ ⊟ (const K c ⊠ g)) k ≡ 𝟘
        below k (yes e) le = coefficient k ∙ rw e (cancels _ _ gn)
        below zero (no n) le = absurd (omega arith)
        below (suc k) (no n) le = coefficient (suc k) ∙ rw (cons_suc (f zero) t.rem k, t.rem_below k (omega arith), gb (suc k) (omega arith)) (simp ring)

    pub divide : (n : ℕ) (f : Series E) → Below K n f → Divided f g d
    divide zero f h = record { quo = 𝟎; rem = 𝟎; is = below_zero K f h ∙ simp ring; quo_bounded = (0, zero_below K 0); rem_below = zero_below K d }
    divide (suc n) f h = step f (divide n (tail f) (below_tail K n f h))
