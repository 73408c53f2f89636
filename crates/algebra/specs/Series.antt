-- Formal power series over a ring, which are a ring again.
use Rattle.std.specs.Prelude.{◌≡◌, ℕ, zero, suc}
use Rattle.std.proofs.Math.Path.{refl, fun_ext}
use Rattle.std.proofs.Common.{◌∙◌, ap₂}
use Rattle.algebra.specs.Ring.{Ring, ring, zero_mul, add_left_comm}

-- the coefficients, from the constant up
abbrev pub Series : Type 0 → Type 0
Series E = ℕ → E

-- the series without its constant, divided by x
abbrev pub tail : {E : Type 0} → Series E → Series E
tail f k = f (suc k)

module _ {E : Type 0} (R : Ring E) where
  open R use {zero as 𝟘, one as 𝟙, add as ◌⊕◌, neg as ⊖◌, mul as ◌⊙◌}

  infixl 60 ◌⊕◌
  infixl 70 ◌⊙◌
  infix 80 ⊖◌
  abbrev pub szero : Series E
  szero k = 𝟘

  abbrev pub sone : Series E
  sone zero = 𝟙
  sone (suc k) = 𝟘

  abbrev pub sadd : Series E → Series E → Series E
  sadd f g k = f k ⊕ g k

  abbrev pub sneg : Series E → Series E
  sneg f k = ⊖ f k

  abbrev pub scale : E → Series E → Series E
  scale c f k = c ⊙ f k

  unfoldable pub smul : Series E → Series E → Series E
  smul f g zero = f zero ⊙ g zero
  smul f g (suc n) = f zero ⊙ g (suc n) ⊕ smul (tail f) g n

  pub smul_zero : (f g : Series E) → smul f g zero ≡ f zero ⊙ g zero
  unfolding smul
  smul_zero f g = refl

  pub smul_suc : (f g : Series E) (n : ℕ) → smul f g (suc n) ≡ f zero ⊙ g (suc n) ⊕ smul (tail f) g n
  unfolding smul
  smul_suc f g n = refl

  pub smul_suc_r : (f g : Series E) (n : ℕ) → smul f g (suc n) ≡ f (suc n) ⊙ g zero ⊕ smul f (tail g) n
  unfolding smul
  smul_suc_r f g zero = R.add_comm _ _
  smul_suc_r f g (suc n) = rw (smul_suc f g (suc n), smul_suc_r (tail f) g n, smul_suc f (tail g) n) (add_left_comm R _ _ _)

  pub smul_comm : (f g : Series E) (n : ℕ) → smul f g n ≡ smul g f n
  smul_comm f g zero = simp (smul_zero, ring)
  smul_comm f g (suc n) = rw (smul_suc f g n, smul_suc_r g f n, smul_comm (tail f) g n) (simp ring)

  pub smul_add : (f g h : Series E) (n : ℕ) → smul (sadd f g) h n ≡ smul f h n ⊕ smul g h n
  smul_add f g h zero = simp (smul_zero, ring)
  smul_add f g h (suc n) = simp (smul_suc, smul_add (tail f) (tail g) h n, ring)

  pub smul_scale : (c : E) (f g : Series E) (n : ℕ) → smul (scale c f) g n ≡ c ⊙ smul f g n
  smul_scale c f g zero = simp (smul_zero, ring)
  smul_scale c f g (suc n) = simp (smul_suc, smul_scale c (tail f) g n, ring)

  -- a product without its first coefficient
  pub tail_smul : (f g : Series E) → tail (smul f g) ≡ sadd (scale (f zero) (tail g)) (smul (tail f) g)
  tail_smul f g = fun_ext (smul_suc f g)

  pub smul_assoc : (f g h : Series E) (n : ℕ) → smul (smul f g) h n ≡ smul f (smul g h) n
  smul_assoc f g h zero = simp (smul_zero, ring)
  smul_assoc f g h (suc n) = rw (smul_suc (smul f g) h n, tail_smul f g, smul_add (scale (f zero) (tail g)) (smul (tail f) g) h n, smul_scale (f zero) (tail g) h n, smul_assoc (tail f) g h n) (simp (smul_suc, smul_zero, ring))

  pub zero_smul : (g : Series E) (n : ℕ) → smul szero g n ≡ 𝟘
  zero_smul g zero = simp (smul_zero, ring)
  zero_smul g (suc n) = rw (smul_suc szero g n, zero_smul g n) (simp ring)

  pub one_smul : (g : Series E) (n : ℕ) → smul sone g n ≡ g n
  one_smul g zero = simp (smul_zero, ring)
  one_smul g (suc n) = rw (smul_suc sone g n, zero_smul g n) (simp ring)

  -- Closed, so that `(series R).mul f g` stays as it is written, and `simp ring` and `by_ring` see it; the laws `coef` below read its coefficients
  unfoldable pub series : Ring (Series E)
  series = record {
    zero = szero;
    one = sone;
    add = sadd;
    neg = sneg;
    mul = smul;
    add_assoc = λ f g h. fun_ext λ k. R.add_assoc _ _ _;
    add_comm = λ f g. fun_ext λ k. R.add_comm _ _;
    add_zero = λ f. fun_ext λ k. R.add_zero _;
    add_neg = λ f. fun_ext λ k. R.add_neg _;
    mul_assoc = λ f g h. fun_ext (smul_assoc f g h);
    mul_comm = λ f g. fun_ext (smul_comm f g);
    mul_one = λ f. fun_ext λ k. smul_comm f sone k ∙ one_smul f k;
    mul_add = λ f g h. fun_ext λ k. smul_comm f (sadd g h) k ∙ smul_add g h f k ∙ ap₂ ◌⊕◌ (smul_comm g f k) (smul_comm h f k);
  }

-- the series a + x f
unfoldable pub cons : {E : Type 0} → E → Series E → Series E
cons a f zero = a
cons a f (suc k) = f k

pub cons_zero : {E : Type 0} (a : E) (f : Series E) → cons a f zero ≡ a
unfolding cons
cons_zero a f = refl

pub cons_suc : {E : Type 0} (a : E) (f : Series E) (k : ℕ) → cons a f (suc k) ≡ f k
unfolding cons
cons_suc a f k = refl

pub tail_cons : {E : Type 0} (a : E) (f : Series E) → tail (cons a f) ≡ f
unfolding cons
tail_cons a f = refl

pub cons_tail : {E : Type 0} (f : Series E) → cons (f zero) (tail f) ≡ f
cons_tail f = fun_ext (elim [ zero ↦ cons_zero _ _ | suc k ↦ cons_suc _ _ k ])

module _ {E : Type 0} (R : Ring E) where
  open R use {zero as 𝟘, one as 𝟙, add as ◌⊕◌, neg as ⊖◌, mul as ◌⊙◌}
  open series R use {zero as 𝟎, one as 𝟏, add as ◌⊞◌, neg as ⊟◌, mul as ◌⊠◌}

  infixl 60 ◌⊕◌
  infixl 70 ◌⊙◌
  infix 80 ⊖◌
  infixl 60 ◌⊞◌
  infixl 70 ◌⊠◌
  infix 80 ⊟◌
  pub const : E → Series E
  const c = cons c 𝟎

  pub at_zero : (k : ℕ) → 𝟎 k ≡ 𝟘
  unfolding series
  at_zero k = refl

  pub at_one : 𝟏 zero ≡ 𝟙
  unfolding series
  at_one = refl

  pub at_one_suc : (k : ℕ) → 𝟏 (suc k) ≡ 𝟘
  unfolding series
  at_one_suc k = refl

  pub at_add : (f g : Series E) (k : ℕ) → (f ⊞ g) k ≡ f k ⊕ g k
  unfolding series
  at_add f g k = refl

  pub at_neg : (f : Series E) (k : ℕ) → (⊟ f) k ≡ ⊖ f k
  unfolding series
  at_neg f k = refl

  pub at_mul : (f g : Series E) → (f ⊠ g) zero ≡ f zero ⊙ g zero
  unfolding series
  at_mul f g = smul_zero R f g

  pub at_mul_suc : (f g : Series E) (k : ℕ) → (f ⊠ g) (suc k) ≡ f zero ⊙ g (suc k) ⊕ (tail f ⊠ g) k
  unfolding series
  at_mul_suc f g k = smul_suc R f g k

  pub at_const : (c : E) → const c zero ≡ c
  unfolding const
  at_const c = cons_zero _ _

  pub at_const_suc : (c : E) (k : ℕ) → const c (suc k) ≡ 𝟘
  unfolding const
  at_const_suc c k = cons_suc _ _ k ∙ at_zero k

  pub at_const_mul : (c : E) (f : Series E) (k : ℕ) → (const c ⊠ f) k ≡ c ⊙ f k
  unfolding const
  at_const_mul c f zero = simp (at_mul, cons_zero)
  at_const_mul c f (suc k) = rw (at_mul_suc (cons c 𝟎) f k, cons_zero c 𝟎, tail_cons c 𝟎, zero_mul (series R) f, at_zero k) (simp ring)

  pub ruleset coef = (at_zero, at_one, at_one_suc, at_add, at_neg, at_mul, at_const_mul, at_mul_suc, cons_zero, cons_suc, at_const, at_const_suc)

  pub cons_add : (a b : E) (f g : Series E) → cons a f ⊞ cons b g ≡ cons (a ⊕ b) (f ⊞ g)
  cons_add a b f g = fun_ext (elim [ zero ↦ simp coef | suc k ↦ simp coef ])

  pub cons_mul : (a : E) (f g : Series E) → cons a f ⊠ g ≡ const a ⊠ g ⊞ cons 𝟘 (f ⊠ g)
  cons_mul a f g = fun_ext (elim [ zero ↦ simp (coef, ring) | suc k ↦ simp (tail_cons, coef) ])

  pub tail_mul : (f g : Series E) → tail (f ⊠ g) ≡ const (f zero) ⊠ tail g ⊞ tail f ⊠ g
  tail_mul f g = fun_ext λ k. simp (at_add, at_const_mul, at_mul_suc)

  pub const_zero : const 𝟘 ≡ 𝟎
  const_zero = fun_ext (elim [ zero ↦ simp coef | suc k ↦ simp coef ])

  pub const_one : const 𝟙 ≡ 𝟏
  const_one = fun_ext (elim [ zero ↦ simp coef | suc k ↦ simp coef ])

  pub const_add : (a b : E) → const (a ⊕ b) ≡ const a ⊞ const b
  const_add a b = fun_ext (elim [ zero ↦ simp coef | suc k ↦ simp coef (simp ring) ])

  pub const_mul : (a b : E) → const (a ⊙ b) ≡ const a ⊠ const b
  const_mul a b = fun_ext (elim [ zero ↦ simp coef | suc k ↦ simp coef (simp ring) ])

  pub const_neg : (a : E) → const (⊖ a) ≡ ⊟ const a
  const_neg a = fun_ext (elim [ zero ↦ simp coef | suc k ↦ simp coef (simp ring) ])

  -- the unknown, x
  pub x̂ : Series E
  x̂ = cons 𝟘 𝟏

  pub x̂_mul : (f : Series E) → x̂ ⊠ f ≡ cons 𝟘 f
  unfolding x̂
  x̂_mul f = cons_mul 𝟘 𝟏 f ∙ simp (const_zero, ring)

  pub cons_is : (a : E) (f : Series E) → cons a f ≡ const a ⊞ x̂ ⊠ f
  cons_is a f = rw (x̂_mul f) (fun_ext (elim [ zero ↦ simp coef (simp ring) | suc k ↦ simp coef (simp ring) ]))
