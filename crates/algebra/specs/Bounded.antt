-- Series whose coefficients are zero from some place on: their sums, products and leading coefficients, and that no product of two of them is zero.
use Rattle.std.specs.Prelude.{◌≡◌, ℕ, zero, suc, ◌+◌, ◌≤◌, ◌⊎◌, refl}
use Rattle.std.proofs.Common.{sym, ◌∙◌, ap, ap₂, inl, inr, zero-le, suc-le-suc, arith}
use Rattle.std.proofs.Math.Path.{fun_ext}
use Rattle.std.proofs.Math.Decide.{ℕ_discrete}
use Rattle.algebra.specs.Ring.{Ring, ring, mul_zero, zero_mul, add_zero, neg_zero}
use Rattle.algebra.specs.Series.{Series, tail, series, const, cons, cons_suc, at_zero, at_add, at_neg, at_mul, at_mul_suc, at_const_mul, at_const_suc, at_one_suc}

-- the coefficients from n on are zero
abbrev pub Below : {E : Type 0} → Ring E → ℕ → Series E → Type 0
Below R n f = (k : ℕ) → n ≤ k → f k ≡ R.zero

abbrev pub Bounded : {E : Type 0} → Ring E → Series E → Type 0
Bounded R f = (n : ℕ) × Below R n f

-- among the elements with the property P it is decided which are zero, and no product of two others is zero
pub record Domain {E : Type 0} (R : Ring E) (P : E → Type 0) : Type 0 where
  pub zero? : (a : E) → P a → Dec (a ≡ R.zero)
  pub cancel : (a b : E) → P a → P b → R.mul a b ≡ R.zero → (a ≡ R.zero) ⊎ (b ≡ R.zero)

-- the property that every element has
abbrev pub Any : {E : Type 0} → E → Type 0
Any a = Unit {0}

module _ {E : Type 0} (R : Ring E) where
  open R use {zero as 𝟘, one as 𝟙, add as ◌⊕◌, neg as ⊖◌, mul as ◌⊙◌}
  open series R use {zero as 𝟎, one as 𝟏, add as ◌⊞◌, neg as ⊟◌, mul as ◌⊠◌}

  infixl 60 ◌⊕◌
  infixl 70 ◌⊙◌
  infix 80 ⊖◌
  infixl 60 ◌⊞◌
  infixl 70 ◌⊠◌
  infix 80 ⊟◌
  pub below_more : (m n : ℕ) (f : Series E) → m ≤ n → Below R m f → Below R n f
  below_more m n f le h k l = h k (omega arith)

  pub below_tail : (m : ℕ) (f : Series E) → Below R (suc m) f → Below R m (tail f)
  below_tail m f h k le = h (suc k) (suc-le-suc le)

  pub below_zero : (f : Series E) → Below R zero f → f ≡ 𝟎
  below_zero f h = fun_ext λ k. h k zero-le ∙ sym (at_zero R k)

  pub zero_below : (n : ℕ) → Below R n 𝟎
  zero_below n k le = at_zero R k

  pub below_cons : (n : ℕ) (a : E) (f : Series E) → Below R n f → Below R (suc n) (cons a f)
  below_cons n a f h zero le = absurd (omega arith)
  below_cons n a f h (suc k) le = cons_suc a f k ∙ h k (omega arith)

  pub below_const : (c : E) → Below R 1 (const R c)
  below_const c zero le = absurd (omega arith)
  below_const c (suc k) le = at_const_suc R c k

  pub one_below : Below R 1 𝟏
  one_below zero le = absurd (omega arith)
  one_below (suc k) le = at_one_suc R k

  pub below_add : (n : ℕ) (f g : Series E) → Below R n f → Below R n g → Below R n (f ⊞ g)
  below_add n f g p q k le = at_add R f g k ∙ ap₂ ◌⊕◌ (p k le) (q k le) ∙ add_zero R _

  pub below_neg : (n : ℕ) (f : Series E) → Below R n f → Below R n (⊟ f)
  below_neg n f p k le = at_neg R f k ∙ ap ⊖◌ (p k le) ∙ neg_zero R

  pub below_scale : (n : ℕ) (c : E) (f : Series E) → Below R n f → Below R n (const R c ⊠ f)
  below_scale n c f p k le = at_const_mul R c f k ∙ ap (λ x. c ⊙ x) (p k le) ∙ mul_zero R c

  pub null_mul : (f g : Series E) → Below R zero f → (k : ℕ) → (f ⊠ g) k ≡ 𝟘
  null_mul f g p k = ap (λ h. (h ⊠ g) k) (below_zero f p) ∙ ap (λ h. h k) (zero_mul (series R) g) ∙ at_zero R k

  -- past the bounds a product has no coefficient
  pub below_at : (m n : ℕ) (f g : Series E) → Below R m f → Below R n g → (k : ℕ) → m + n ≤ suc k → (f ⊠ g) k ≡ 𝟘
  below_at zero n f g p q k le = null_mul f g p k
  below_at (suc m) n f g p q zero le = rw (at_mul R f g, q zero (omega arith)) (mul_zero R _)
  below_at (suc m) n f g p q (suc k) le = rw (at_mul_suc R f g k, q (suc k) (omega arith), below_at m n (tail f) g (below_tail m f p) q k (omega arith)) (simp ring)

  pub below_mul : (m n : ℕ) (f g : Series E) → Below R m f → Below R n g → Below R (m + n) (f ⊠ g)
  below_mul m n f g p q k le = below_at m n f g p q k (omega arith)

  lead_at : (m n : ℕ) (f g : Series E) → Below R (suc m) f → Below R (suc n) g → (k : ℕ) → k ≡ m + n → (f ⊠ g) k ≡ f m ⊙ g n
  lead_at zero n f g p q zero e = let z : n ≡ 0 = omega arith in rw z (at_mul R f g)
  lead_at zero n f g p q (suc k) e =
      let z : n ≡ suc k = omega arith in
      rw (z, at_mul_suc R f g k, null_mul (tail f) g (below_tail zero f p) k) (add_zero R _)
  lead_at (suc m) n f g p q zero e = absurd (omega arith)
  lead_at (suc m) n f g p q (suc k) e = rw (at_mul_suc R f g k, q (suc k) (omega arith), lead_at m n (tail f) g (below_tail (suc m) f p) q k (omega arith)) (simp ring)

  -- the leading coefficient of a product
  pub lead : (m n : ℕ) (f g : Series E) → Below R (suc m) f → Below R (suc n) g → (f ⊠ g) (m + n) ≡ f m ⊙ g n
  lead m n f g p q = lead_at m n f g p q (m + n) refl

  -- the degree of a series with a bound, which is not zero
  pub record Lead (f : Series E) : Type 0 where
    pub deg : ℕ
    pub below : Below R (suc deg) f
    pub nonzero : ¬ (f deg ≡ 𝟘)

  pub below_less : (n : ℕ) (f : Series E) → Below R (suc n) f → f n ≡ 𝟘 → Below R n f
  below_less n f h e k le = go (ℕ_discrete n k)
    where
      go : Dec (n ≡ k) → f k ≡ 𝟘
      go (yes p) = rw (← p) e
      go (no p) = h k (omega arith)

  pub top : (f : Series E) → ((k : ℕ) → Dec (f k ≡ 𝟘)) → (n : ℕ) → Below R n f → (f ≡ 𝟎) ⊎ Lead f
  top f d zero h = inl (below_zero f h)
  top f d (suc n) h = go (top f d n) (d n)
    where
      go : (Below R n f → (f ≡ 𝟎) ⊎ Lead f) → Dec (f n ≡ 𝟘) → (f ≡ 𝟎) ⊎ Lead f
      go ih (yes e) = ih (below_less n f h e)
      go ih (no ne) = inr (record { deg = n; below = h; nonzero = ne })

  pub lead_not_zero : (f : Series E) → Lead f → ¬ (f ≡ 𝟎)
  lead_not_zero f l e = l.nonzero (ap (λ h. h l.deg) e ∙ at_zero R _)

  -- a series with a bound, whose coefficients have the property P
  abbrev pub Polynomial : (E → Type 0) → Series E → Type 0
  Polynomial P f = ((k : ℕ) → P (f k)) × Bounded R f

  module _ {P : E → Type 0} (D : Domain R P) where
    pub zero_or_lead : (f : Series E) → Polynomial P f → (f ≡ 𝟎) ⊎ Lead f
    zero_or_lead f p = top f (λ k. D.zero? (f k) (p.0 k)) p.1.0 p.1.1

    pub mul_lead : (f g : Series E) → Polynomial P f → Polynomial P g → Lead f → Lead g → Lead (f ⊠ g)
    mul_lead f g pf pg l m = record {
      deg = l.deg + m.deg;
      below = λ k le. below_at (suc l.deg) (suc m.deg) f g l.below m.below k (omega arith);
      nonzero = λ e. go (D.cancel _ _ (pf.0 l.deg) (pg.0 m.deg) (sym (lead l.deg m.deg f g l.below m.below) ∙ e));
    }
      where
        go : (f l.deg ≡ 𝟘) ⊎ (g m.deg ≡ 𝟘) → ⊥
        go (inl x) = l.nonzero x
        go (inr y) = m.nonzero y

    pub polynomials : Domain (series R) (Polynomial P)
    polynomials = record { zero? = λ f p. dec f (zero_or_lead f p); cancel = λ f g p q e. go f g p q e (zero_or_lead f p) (zero_or_lead g q) }
      where
        dec : (f : Series E) → (f ≡ 𝟎) ⊎ Lead f → Dec (f ≡ 𝟎)
        dec f (inl e) = yes e
        dec f (inr l) = no (lead_not_zero f l)

        go : (f g : Series E) → Polynomial P f → Polynomial P g → f ⊠ g ≡ 𝟎 → (f ≡ 𝟎) ⊎ Lead f → (g ≡ 𝟎) ⊎ Lead g → (f ≡ 𝟎) ⊎ (g ≡ 𝟎)
        go f g p q e (inl x) y = inl x
        go f g p q e (inr x) (inl y) = inr y
        go f g p q e (inr x) (inr y) = absurd (lead_not_zero _ (mul_lead f g p q x y) e)
