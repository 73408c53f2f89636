-- A polynomial from its constant and the rest, and the sizes and values that this takes.
use Rattle.std.proofs.Common.{◌≡◌, ℕ, zero, suc, ◌+◌, ◌<◌, ◌≤◌, sym, refl, ap, ◌∙◌, ap₂, arith}
use mathlib.Core.Path.{fun_ext}
use mathlib.Core.HLevel.{Discrete}
use Rattle.algebra.specs.Ring.{Ring, neg_unique}
use Rattle.algebra.specs.Series.{series, cons, cons_zero, cons_suc, cons_add, cons_mul, tail, tail_cons}
use Rattle.algebra.specs.Bounded.{Below, below_cons, below_add, below_neg}
use Rattle.algebra.specs.Value.{value, value_suc}
use Rattle.algebra.specs.Polynomial.{Poly, poly, poly_discrete, make, make_is, same, size, size_least, size_unique, of_add, of_neg, of_mul, at, at_is, at_of, evaluate}
use Rattle.algebra.specs.Change.{Poly₂, number, of_number, image, of_change}
use Rattle.algebra.proofs.Degrees.{coef_zero, coef_neg, coef_scale, number_coef, number_below, below_size, below_product, size_of_zero}

module _ {E : Type 0} (R : Ring E) (eq : Discrete E) where
  open R use {zero as 𝟘, one as 𝟙, add as ◌⊕◌, neg as ⊖◌, mul as ◌⊙◌}
  open poly R eq use {zero as 𝟎, one as 𝟏, add as ◌⊞◌, neg as ⊟◌, mul as ◌⊠◌}

  infixl 60 ◌⊕◌
  infixl 70 ◌⊙◌
  infix 80 ⊖◌
  infixl 60 ◌⊞◌
  infixl 70 ◌⊠◌
  infix 80 ⊟◌
  -- a + x p
  pub grow : E → Poly R → Poly R
  grow a p = make R eq (suc (size R p)) (cons a p.0) (below_cons R (size R p) a p.0 p.1.1.0)

  of_grow : (a : E) (p : Poly R) → (grow a p).0 ≡ cons a p.0
  unfolding grow
  of_grow a p = make_is R eq _ _ _

  pub grow_first : (a : E) (p : Poly R) → (grow a p).0 zero ≡ a
  grow_first a p = ap (λ f. f zero) (of_grow a p) ∙ cons_zero _ _

  pub grow_rest : (a : E) (p : Poly R) (k : ℕ) → (grow a p).0 (suc k) ≡ p.0 k
  grow_rest a p k = ap (λ f. f (suc k)) (of_grow a p) ∙ cons_suc _ _ k

  -- from the coefficients
  pub as_grow : (a : E) (p q : Poly R) → q.0 zero ≡ a → ((k : ℕ) → q.0 (suc k) ≡ p.0 k) → q ≡ grow a p
  as_grow a p q e h = same R eq (fun_ext (elim [ zero ↦ e ∙ sym (grow_first a p) | suc k ↦ h k ∙ sym (grow_rest a p k) ]))

  pub grow_zero : grow 𝟘 𝟎 ≡ 𝟎
  grow_zero = sym (as_grow 𝟘 𝟎 𝟎 (coef_zero R eq 0) (λ k. coef_zero R eq (suc k) ∙ sym (coef_zero R eq k)))

  pub grow_number : (c : E) → grow c 𝟎 ≡ number R eq c
  grow_number c = sym (as_grow c 𝟎 (number R eq c) (number_coef R eq c) (λ k. number_below R eq c (suc k) (omega arith) ∙ sym (coef_zero R eq k)))

  pub grow_add : (a b : E) (p q : Poly R) → grow a p ⊞ grow b q ≡ grow (a ⊕ b) (p ⊞ q)
  grow_add a b p q = same R eq (of_add R eq _ _ ∙ ap₂ (series R).add (of_grow a p) (of_grow b q) ∙ cons_add R a b p.0 q.0 ∙ ap (cons (a ⊕ b)) (sym (of_add R eq p q)) ∙ sym (of_grow _ _))

  pub grow_neg : (a : E) (p : Poly R) → ⊟ grow a p ≡ grow (⊖ a) (⊟ p)
  grow_neg a p = as_grow (⊖ a) (⊟ p) (⊟ grow a p) (coef_neg R eq _ 0 ∙ ap ⊖◌ (grow_first a p)) (λ k. coef_neg R eq _ (suc k) ∙ ap ⊖◌ (grow_rest a p k) ∙ sym (coef_neg R eq p k))

  pub grow_scale : (c a : E) (p : Poly R) → number R eq c ⊠ grow a p ≡ grow (c ⊙ a) (number R eq c ⊠ p)
  grow_scale c a p = as_grow (c ⊙ a) (number R eq c ⊠ p) (number R eq c ⊠ grow a p) (coef_scale R eq c _ 0 ∙ ap (λ x. c ⊙ x) (grow_first a p)) (λ k. coef_scale R eq c _ (suc k) ∙ ap (λ x. c ⊙ x) (grow_rest a p k) ∙ sym (coef_scale R eq c p k))

  pub grow_mul : (a : E) (p q : Poly R) → grow a p ⊠ q ≡ number R eq a ⊠ q ⊞ grow 𝟘 (p ⊠ q)
  grow_mul a p q = same R eq (of_mul R eq _ _ ∙ ap (λ f. (series R).mul f q.0) (of_grow a p) ∙ cons_mul R a p.0 q.0 ∙ sym (of_add R eq _ _ ∙ ap₂ (series R).add (of_mul R eq _ _ ∙ ap (λ f. (series R).mul f q.0) (of_number R eq a)) (of_grow _ _ ∙ ap (cons 𝟘) (of_mul R eq p q))))

  pub grow_at : (x a : E) (p : Poly R) → at R eq x (grow a p) ≡ a ⊕ x ⊙ at R eq x p
  grow_at x a p =
      let n = size R p in
      at_of R eq x (grow a p) (cons a p.0) (suc n) (of_grow a p) (below_cons R n a p.0 p.1.1.0) ∙ value_suc R n x (cons a p.0) ∙ ap₂ (λ s t. s ⊕ x ⊙ t) (cons_zero _ _) (ap (value R n x) (tail_cons a p.0) ∙ sym (at_is R eq x p n p.1.1.0))

  pub grow_same : (a b : E) (p q : Poly R) → grow a p ≡ grow b q → (a ≡ b) × (p ≡ q)
  grow_same a b p q e = (sym (grow_first a p) ∙ ap (λ (r : Poly R). r.0 0) e ∙ grow_first b q, same R eq (fun_ext λ k. sym (grow_rest a p k) ∙ ap (λ (r : Poly R). r.0 (suc k)) e ∙ grow_rest b q k))

  -- a polynomial without its constant, divided by x
  pub rest : Poly R → Poly R
  rest p = make R eq (size R p) (tail p.0) (λ k le. p.1.1.0 (suc k) (omega arith))

  rest_at : (p : Poly R) (k : ℕ) → (rest p).0 k ≡ p.0 (suc k)
  unfolding rest
  rest_at p k = ap (λ f. f k) (make_is R eq _ _ _)

  pub grow_parts : (p : Poly R) → p ≡ grow (p.0 0) (rest p)
  grow_parts p = as_grow (p.0 0) (rest p) p refl (λ k. sym (rest_at p k))

  pub rest_size : (p : Poly R) (n : ℕ) → size R p ≤ suc n → size R (rest p) ≤ n
  rest_size p n l = size_least R (rest p) n (λ k le. rest_at p k ∙ p.1.1.0 (suc k) (omega arith))

  -- sizes
  pub positive_nonzero : (p : Poly R) → 0 < size R p → ¬ (p ≡ 𝟎)
  positive_nonzero p l e = let z : size R p ≡ 0 = ap (size R) e ∙ size_of_zero R eq in omega arith

  last_nonzero : (p : Poly R) (m : ℕ) → size R p ≡ suc m → ¬ (p.0 m ≡ 𝟘)
  last_nonzero (f, (zero, t)) m e = absurd (omega arith)
  last_nonzero (f, (suc n, t)) m e = let i : n ≡ m = omega arith in λ z. t.1 (ap f i ∙ z)

  size_from : (p : Poly R) (n : ℕ) → Below R (suc n) p.0 → ¬ (p.0 n ≡ 𝟘) → size R p ≡ suc n
  size_from p n b t = size_unique R p.0 (size R p) (suc n) p.1.1.0 p.1.1.1 b t

  grow_below : (a : E) (p : Poly R) (n : ℕ) → size R p ≤ n → Below R (suc n) (grow a p).0
  grow_below a p n l zero le = absurd (omega arith)
  grow_below a p n l (suc k) le = grow_rest a p k ∙ p.1.1.0 k (omega arith)

  pub grow_size_zero : (a : E) (p : Poly R) → size R p ≡ 0 → ¬ (a ≡ 𝟘) → size R (grow a p) ≡ 1
  grow_size_zero a p e n = size_from (grow a p) 0 (grow_below a p 0 (omega arith)) (λ z. n (sym (grow_first a p) ∙ z))

  pub grow_size_suc : (a : E) (p : Poly R) (m : ℕ) → size R p ≡ suc m → size R (grow a p) ≡ suc (suc m)
  grow_size_suc a p m e = size_from (grow a p) (suc m) (grow_below a p (suc m) (omega arith)) (λ z. last_nonzero p m e (sym (grow_rest a p m) ∙ z))

  pub number_small : (c : E) → size R (number R eq c) ≤ 1
  number_small c = size_least R (number R eq c) 1 (number_below R eq c)

  pub add_size : (n : ℕ) (p q : Poly R) → size R p ≤ n → size R q ≤ n → size R (p ⊞ q) ≤ n
  add_size n p q l m = size_least R (p ⊞ q) n (rw (of_add R eq p q) (below_add R n p.0 q.0 (below_size R eq p n l) (below_size R eq q n m)))

  pub neg_size : (n : ℕ) (p : Poly R) → size R p ≤ n → size R (⊟ p) ≤ n
  neg_size n p l = size_least R (⊟ p) n (rw (of_neg R eq p) (below_neg R n p.0 (below_size R eq p n l)))

  pub mul_size : (n : ℕ) (p q : Poly R) → size R p + size R q ≤ suc n → size R (p ⊠ q) ≤ n
  mul_size n p q l = size_least R (p ⊠ q) n (below_product R eq (size R p) (size R q) n p q p.1.1.0 q.1.1.0 l)

  -- values
  pub at_zero_is : (x : E) → at R eq x 𝟎 ≡ 𝟘
  unfolding evaluate
  at_zero_is x = (evaluate R eq x).map_zero

  pub at_one_is : (x : E) → at R eq x 𝟏 ≡ 𝟙
  unfolding evaluate
  at_one_is x = (evaluate R eq x).map_one

  pub at_add_is : (x : E) (p q : Poly R) → at R eq x (p ⊞ q) ≡ at R eq x p ⊕ at R eq x q
  unfolding evaluate
  at_add_is x = (evaluate R eq x).map_add

  pub at_mul_is : (x : E) (p q : Poly R) → at R eq x (p ⊠ q) ≡ at R eq x p ⊙ at R eq x q
  unfolding evaluate
  at_mul_is x = (evaluate R eq x).map_mul

  pub at_neg_is : (x : E) (p : Poly R) → at R eq x (⊟ p) ≡ ⊖ at R eq x p
  at_neg_is x p = neg_unique R _ _ (sym (at_add_is x p (⊟ p)) ∙ ap (at R eq x) ((poly R eq).add_neg p) ∙ at_zero_is x)

  -- a coefficient of the image is the value of the coefficient
  pub image_at : (x : E) (P : Poly₂ R eq) (k : ℕ) → ((image R eq x).map P).0 k ≡ at R eq x (P.0 k)
  unfolding image evaluate
  image_at x P k = ap (λ f. f k) (of_change (poly R eq) R (evaluate R eq x) (poly_discrete R eq) eq P)

-- the image of a polynomial in x from its constant
pub grow_image : {E : Type 0} (R : Ring E) (eq : Discrete E) (x : E) (c : Poly R) (P : Poly₂ R eq) → (image R eq x).map (grow (poly R eq) (poly_discrete R eq) c P) ≡ grow R eq (at R eq x c) ((image R eq x).map P)
grow_image R eq x c P = as_grow R eq (at R eq x c) ((image R eq x).map P) _ (image_at R eq x _ 0 ∙ ap (at R eq x) (grow_first (poly R eq) (poly_discrete R eq) c P)) (λ k. image_at R eq x _ (suc k) ∙ ap (at R eq x) (grow_rest (poly R eq) (poly_discrete R eq) c P k) ∙ sym (image_at R eq x P k))
