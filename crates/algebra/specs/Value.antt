-- The value of the first terms of a series at a point.
use Rattle.std.specs.Prelude.{◌≡◌, ℕ, zero, suc, ◌+◌, ◌≤◌}
use Rattle.std.proofs.Math.Path.{refl, fun_ext}
use Rattle.std.proofs.Common.{sym, ◌∙◌, zero-le, arith}
use Rattle.algebra.specs.Ring.{Ring, ring}
use Rattle.algebra.specs.Series.{Series, tail, series, const, tail_mul, at_add, at_mul, at_const_mul}
use Rattle.algebra.specs.Bounded.{Below, below_tail, null_mul}

module _ {E : Type 0} (R : Ring E) where
  open R use {zero as 𝟘, one as 𝟙, add as ◌⊕◌, neg as ⊖◌, mul as ◌⊙◌}
  open series R use {zero as 𝟎, one as 𝟏, add as ◌⊞◌, neg as ⊟◌, mul as ◌⊠◌}

  infixl 60 ◌⊕◌
  infixl 70 ◌⊙◌
  infix 80 ⊖◌
  infixl 60 ◌⊞◌
  infixl 70 ◌⊠◌
  infix 80 ⊟◌
  -- the first n terms of f, at x
  unfoldable pub value : ℕ → E → Series E → E
  value zero x f = 𝟘
  value (suc n) x f = f zero ⊕ x ⊙ value n x (tail f)

  pub value_none : (x : E) (f : Series E) → value zero x f ≡ 𝟘
  unfolding value
  value_none x f = refl

  pub value_suc : (n : ℕ) (x : E) (f : Series E) → value (suc n) x f ≡ f zero ⊕ x ⊙ value n x (tail f)
  unfolding value
  value_suc n x f = refl

  pub value_add : (n : ℕ) (x : E) (f g : Series E) → value n x (f ⊞ g) ≡ value n x f ⊕ value n x g
  value_add zero x f g = simp (value_none, ring)
  value_add (suc n) x f g = rw (value_suc n x (f ⊞ g), value_suc n x f, value_suc n x g, at_add R f g zero, tail_add f g, value_add n x (tail f) (tail g)) (simp ring)
    where
      tail_add : (f g : Series E) → tail (f ⊞ g) ≡ tail f ⊞ tail g
      tail_add f g = fun_ext λ k. simp at_add

  pub value_scale : (n : ℕ) (x c : E) (f : Series E) → value n x (const R c ⊠ f) ≡ c ⊙ value n x f
  value_scale zero x c f = simp (value_none, ring)
  value_scale (suc n) x c f = rw (value_suc n x (const R c ⊠ f), value_suc n x f, at_const_mul R c f zero, tail_scale, value_scale n x c (tail f)) (simp ring)
    where
      tail_scale : tail (const R c ⊠ f) ≡ const R c ⊠ tail f
      tail_scale = fun_ext λ k. simp at_const_mul

  pub value_zero : (n : ℕ) (x : E) (f : Series E) → Below R zero f → value n x f ≡ 𝟘
  value_zero zero x f h = value_none x f
  value_zero (suc n) x f h = simp (value_suc, h zero zero-le, value_zero n x (tail f) (λ k le. h (suc k) zero-le), ring)

  -- the terms past the bound add nothing
  pub value_more : (m : ℕ) (x : E) (f : Series E) → Below R m f → (n : ℕ) → m ≤ n → value n x f ≡ value m x f
  value_more zero x f h n le = value_zero n x f h ∙ sym (value_none x f)
  value_more (suc m) x f h zero le = absurd (omega arith)
  value_more (suc m) x f h (suc n) le = simp (value_suc, value_more m x (tail f) (below_tail R m f h) n (omega arith))

  pub value_mul : (m n : ℕ) (x : E) (f g : Series E) → Below R m f → Below R n g → (k : ℕ) → m + n ≤ k → value k x (f ⊠ g) ≡ value m x f ⊙ value n x g
  value_mul zero n x f g p q k le = value_zero k x (f ⊠ g) (λ j le'. null_mul R f g p j) ∙ simp (value_none, ring)
  value_mul (suc m) n x f g p q zero le = absurd (omega arith)
  value_mul (suc m) n x f g p q (suc k) le =
      rw (value_suc k x (f ⊠ g), tail_mul R f g, value_add k x (const R (f zero) ⊠ tail g) (tail f ⊠ g), value_scale k x (f zero) (tail g), value_mul m n x (tail f) g (below_tail R m f p) q k (omega arith), at_mul R f g, ← value_more n x g q (suc k) (omega arith)) (simp (value_suc, ring))
