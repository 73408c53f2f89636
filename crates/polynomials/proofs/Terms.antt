-- c times a power of the unknown.
use Rattle.std.proofs.Common.{◌≡◌, ℕ, zero, suc, ◌+◌, ◌<◌, ◌∙◌, arith}
use mathlib.Core.HLevel.{Discrete}
use Rattle.algebra.specs.Ring.{Ring, ring, zero_mul, zero_add}
use Rattle.algebra.specs.Series.{Series, series, const, cons, cons_zero, cons_suc, tail_cons, at_const, at_const_mul, at_mul, at_mul_suc}
use Rattle.algebra.specs.Bounded.{Below, below_const, below_cons}
use Rattle.algebra.specs.Polynomial.{Poly, make, make_is}

module _ {E : Type 0} (R : Ring E) where
  open R use {zero as 𝟘, add as ◌⊕◌, mul as ◌⊙◌}
  open series R use {mul as ◌⊠◌}

  infixl 60 ◌⊕◌
  infixl 70 ◌⊙◌
  infixl 70 ◌⊠◌
  unfoldable pub mono : E → ℕ → Series E
  mono c zero = const R c
  mono c (suc s) = cons 𝟘 (mono c s)

  pub mono_below : (c : E) (s : ℕ) → Below R (suc s) (mono c s)
  unfolding mono
  mono_below c zero = below_const R c
  mono_below c (suc s) = below_cons R (suc s) 𝟘 (mono c s) (mono_below c s)

  pub mono_at : (c : E) (s : ℕ) → mono c s s ≡ c
  unfolding mono
  mono_at c zero = at_const R c
  mono_at c (suc s) = cons_suc 𝟘 (mono c s) s ∙ mono_at c s

  pub mono_under : (c : E) (s k : ℕ) → k < s → mono c s k ≡ 𝟘
  unfolding mono
  mono_under c zero k lt = absurd (omega arith)
  mono_under c (suc s) zero lt = cons_zero _ _
  mono_under c (suc s) (suc k) lt = cons_suc 𝟘 (mono c s) k ∙ mono_under c s k (omega arith)

  pub mono_mul : (c : E) (s : ℕ) (f : Series E) (k n : ℕ) → n ≡ s + k → (mono c s ⊠ f) n ≡ c ⊙ f k
  unfolding mono
  mono_mul c zero f k n e = let z : n ≡ k = omega arith in rw z (at_const_mul R c f k)
  mono_mul c (suc s) f k zero e = absurd (omega arith)
  mono_mul c (suc s) f k (suc n) e = at_mul_suc R (cons 𝟘 (mono c s)) f n ∙ rw (cons_zero 𝟘 (mono c s), tail_cons 𝟘 (mono c s), mono_mul c s f k n (omega arith)) (rw (zero_mul R (f (suc n))) (zero_add R _))

  pub mono_mul_under : (c : E) (s : ℕ) (f : Series E) (n : ℕ) → n < s → (mono c s ⊠ f) n ≡ 𝟘
  unfolding mono
  mono_mul_under c zero f n lt = absurd (omega arith)
  mono_mul_under c (suc s) f zero lt = at_mul R (cons 𝟘 (mono c s)) f ∙ rw (cons_zero 𝟘 (mono c s)) (zero_mul R _)
  mono_mul_under c (suc s) f (suc n) lt = at_mul_suc R (cons 𝟘 (mono c s)) f n ∙ rw (cons_zero 𝟘 (mono c s), tail_cons 𝟘 (mono c s), mono_mul_under c s f n (omega arith)) (simp ring)

  module _ (eq : Discrete E) where
    pub term : E → ℕ → Poly R
    term c s = make R eq (suc s) (mono c s) (mono_below c s)

    pub of_term : (c : E) (s : ℕ) → (term c s).0 ≡ mono c s
    unfolding term
    of_term c s = make_is R eq _ _ _
