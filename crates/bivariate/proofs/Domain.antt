-- Polynomials in x and y over a field have no zero divisors: cancelling, factors and sizes.
use Rattle.std.proofs.Common.{◌≡◌, ℕ, suc, pred, ◌+◌, ◌≤◌, ap, ◌∙◌, arith}
use mathlib.Core.HLevel.{Discrete}
use Rattle.algebra.specs.Ring.{Ring, mul_zero, zero_mul}
use Rattle.algebra.specs.Divisors.{Divides}
use Rattle.algebra.specs.Bounded.{Domain, Any}
use Rattle.algebra.specs.Polynomial.{Poly, poly, poly_discrete, size}
use Rattle.algebra.specs.Change.{poly₂}
use Rattle.algebra.specs.Field.{Field, field_domain}
use Rattle.algebra.proofs.Divisors.{cancel}
use Rattle.algebra.proofs.Euclid.{size_zero}
use Rattle.algebra.proofs.Degrees.{leading, size_product, poly_domain}
use Rattle.algebra.proofs.Monic.{MonicForms, poly_forms, poly_zero≢one}
use Rattle.algebra.proofs.OneUnknown.{monics}
use Rattle.bivariate.specs.Degrees.{K[y], K[y][x], deg, deg_x, Monic₂}

-- the factors of what is not zero are not zero
module _ {E : Type 0} (R : Ring E) where
  open R use {zero as 𝟘, mul as ◌⊙◌}

  infixl 70 ◌⊙◌
  pub left_nonzero : {a b c : E} → a ≡ b ⊙ c → ¬ (a ≡ 𝟘) → ¬ (b ≡ 𝟘)
  left_nonzero {a} {b} {c} e n z = n (e ∙ ap (λ x. x ⊙ c) z ∙ zero_mul R c)

  pub right_nonzero : {a b c : E} → a ≡ b ⊙ c → ¬ (a ≡ 𝟘) → ¬ (c ≡ 𝟘)
  right_nonzero {a} {b} {c} e n z = n (e ∙ ap (λ x. b ⊙ x) z ∙ mul_zero R b)

-- a divisor of what is not zero is no larger
pub divisor_size : {E : Type 0} (R : Ring E) (eq : Discrete E) → Domain R Any → (d p : Poly R) → Divides (poly R eq) d p → ¬ (p ≡ (poly R eq).zero) → size R d ≤ size R p
divisor_size R eq D d p (q, e) n =
    let nq = right_nonzero (poly R eq) e n in
    let s = size_product R eq D d q (left_nonzero (poly R eq) e n) nq in
    let l = (leading R eq q nq).is_size in
    let i = ap (size R) e in
    omega arith

pub suc_pred : (n : ℕ) → ¬ (n ≡ 0) → n ≡ suc (pred n)
suc_pred n l = omega arith

module _ {E : Type 0} (F : Field E) where
  open F use {ring as K, discrete as eq, zero≢one}
  open poly K eq use {zero as 𝟘, one as 𝟙, mul as ◌⊙◌}
  open poly₂ K eq use {zero as 𝟎, mul as ◌⊠◌}

  infixl 70 ◌⊙◌
  infixl 70 ◌⊠◌
  pub domain_y : Domain (poly K eq) Any
  domain_y = poly_domain K eq (field_domain F)

  pub domain_yx : Domain (poly₂ K eq) Any
  domain_yx = poly_domain (poly K eq) (poly_discrete K eq) domain_y

  pub zero≢one_y : ¬ (𝟘 ≡ 𝟙)
  zero≢one_y = poly_zero≢one K eq (field_domain F) zero≢one

  -- the monic polynomials in x and y
  pub monics_yx : MonicForms (poly₂ K eq) (Monic₂ F)
  monics_yx = poly_forms (poly K eq) (poly_discrete K eq) domain_y zero≢one_y (monics F)

  pub cancel_y : {a b c : K[y] F} → ¬ (a ≡ 𝟘) → a ⊙ b ≡ a ⊙ c → b ≡ c
  cancel_y = cancel (poly K eq) domain_y

  pub cancel_yx : {A B C : K[y][x] F} → ¬ (A ≡ 𝟎) → A ⊠ B ≡ A ⊠ C → B ≡ C
  cancel_yx = cancel (poly₂ K eq) domain_yx

  -- the size of what is not zero is one more than the degree
  pub size_deg : (p : Poly K) → ¬ (p ≡ 𝟘) → size K p ≡ suc (deg F p)
  size_deg p n = suc_pred (size K p) (λ e. n (size_zero K eq p e))

  pub size_deg_x : (A : K[y][x] F) → ¬ (A ≡ 𝟎) → size (poly K eq) A ≡ suc (deg_x F A)
  size_deg_x A n = suc_pred (size (poly K eq) A) (λ e. n (size_zero (poly K eq) (poly_discrete K eq) A e))

  pub size_x_product : (A B : K[y][x] F) → ¬ (A ≡ 𝟎) → ¬ (B ≡ 𝟎) → suc (size (poly K eq) (A ⊠ B)) ≡ size (poly K eq) A + size (poly K eq) B
  size_x_product = size_product (poly K eq) (poly_discrete K eq) domain_y
