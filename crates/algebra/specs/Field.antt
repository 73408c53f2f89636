-- Fields with decidable equality: each element but zero has an inverse.
use Rattle.std.specs.Prelude.{◌≡◌, ◌⊎◌}
use Rattle.std.proofs.Common.{sym, ◌∙◌, ap, inl, inr}
use mathlib.Core.HLevel.{Discrete}
use Rattle.algebra.specs.Ring.{Ring, mul_zero, one_mul, mul_comm, mul_assoc}
use Rattle.algebra.specs.Bounded.{Domain, Any}

pub record Field (E : Type 0) : Type 0 where
  pub ring : Ring E
  pub inv : E → E
  pub discrete : Discrete E
  pub zero≢one : ¬ (ring.zero ≡ ring.one)
  pub mul_inv : (a : E) → ¬ (a ≡ ring.zero) → ring.mul a (inv a) ≡ ring.one

module _ {E : Type 0} (F : Field E) where
  open F use {ring as R, inv, discrete, mul_inv}
  open R use {zero as 𝟘, one as 𝟙, add as ◌⊕◌, neg as ⊖◌, mul as ◌⊙◌}

  infixl 60 ◌⊕◌
  infixl 70 ◌⊙◌
  infix 80 ⊖◌
  pub inv_mul : (a : E) → ¬ (a ≡ 𝟘) → inv a ⊙ a ≡ 𝟙
  inv_mul a n = mul_comm R _ _ ∙ mul_inv a n

  pub mul_cancel : (a b c : E) → ¬ (a ≡ 𝟘) → a ⊙ b ≡ a ⊙ c → b ≡ c
  mul_cancel a b c n e = sym (back b) ∙ ap (λ x. inv a ⊙ x) e ∙ back c
    where
      back : (x : E) → inv a ⊙ (a ⊙ x) ≡ x
      back x = sym (mul_assoc R _ _ _) ∙ ap (λ y. y ⊙ x) (inv_mul a n) ∙ one_mul R x

  pub field_domain : Domain R Any
  field_domain = record { zero? = λ a u. discrete a 𝟘; cancel = λ a b u v e. go a b e (discrete a 𝟘) }
    where
      go : (a b : E) → a ⊙ b ≡ 𝟘 → Dec (a ≡ 𝟘) → (a ≡ 𝟘) ⊎ (b ≡ 𝟘)
      go a b e (yes z) = inl z
      go a b e (no n) = inr (mul_cancel a b 𝟘 n (e ∙ sym (mul_zero R a)))
