-- Equations that hold in every commutative ring, proved by computing normal forms.
use Rattle.std.specs.Prelude.{◌≡◌, ℕ, zero, suc, ◌+◌, ◌*◌, Bool, true, false, ◌&&◌, T, List, [], ◌∷◌, map, ◌==◌}
use Rattle.std.proofs.Math.Path.{refl, sym, ap, ap₂}
use Rattle.std.proofs.Common.{◌∙◌, eqb→eq}
use Rattle.std.proofs.Math.Nat as NatL
use Rattle.algebra.specs.Ring.{Ring, ring, ring_eq, sub_zero→eq, add_zero, zero_add, zero_mul, mul_zero}

infixl 60 ◌:+◌
infixl 60 ◌:-◌
infixl 70 ◌:*◌
pub data Expr : Type 0 where
  var : ℕ → Expr
  :0 : Expr
  :1 : Expr
  ◌:+◌ : Expr → Expr → Expr
  ◌:-◌ : Expr → Expr → Expr
  ◌:*◌ : Expr → Expr → Expr
  neg : Expr → Expr

-- in n unknowns a list of normal forms in n - 1 unknowns, the coefficients of the powers of the first; in none a pair (p, q), for p - q
abbrev pub NormalForm : ℕ → Type 0
NormalForm zero = ℕ × ℕ
NormalForm (suc n) = List (NormalForm n)

both : (b c : Bool) → T (b && c) → T b × T c
both true c h = (tt, h)
both false c h = absurd h

-- sums and products of lists of coefficients
module _ {A : Type 0} where
  abbrev pub ladd : (A → A → A) → List A → List A → List A
  ladd f [] q = q
  ladd f (a ∷ p) [] = a ∷ p
  ladd f (a ∷ p) (b ∷ q) = f a b ∷ ladd f p q

  abbrev pub lmul : A → (A → A → A) → (A → A → A) → List A → List A → List A
  lmul z f m [] q = []
  lmul z f m (a ∷ p) q = ladd f (map (m a) q) (z ∷ lmul z f m p q)

  abbrev pub lall : (A → Bool) → List A → Bool
  lall t [] = true
  lall t (a ∷ p) = t a && lall t p

abbrev pub nzero : (n : ℕ) → NormalForm n
nzero zero = (0, 0)
nzero (suc n) = []

abbrev pub none : (n : ℕ) → NormalForm n
none zero = (1, 0)
none (suc n) = none n ∷ []

abbrev pub nvar : (n : ℕ) → ℕ → NormalForm n
nvar zero i = nzero zero
nvar (suc n) zero = nzero n ∷ none n ∷ []
nvar (suc n) (suc i) = nvar n i ∷ []

abbrev pub nadd : (n : ℕ) → NormalForm n → NormalForm n → NormalForm n
nadd zero a b = (a.0 + b.0, a.1 + b.1)
nadd (suc n) a b = ladd (nadd n) a b

abbrev pub nneg : (n : ℕ) → NormalForm n → NormalForm n
nneg zero a = (a.1, a.0)
nneg (suc n) a = map (nneg n) a

abbrev pub nmul : (n : ℕ) → NormalForm n → NormalForm n → NormalForm n
nmul zero a b = (a.0 * b.0 + a.1 * b.1, a.0 * b.1 + a.1 * b.0)
nmul (suc n) a b = lmul (nzero n) (nadd n) (nmul n) a b

abbrev pub null : (n : ℕ) → NormalForm n → Bool
null zero a = a.0 == a.1
null (suc n) a = lall (null n) a

abbrev pub normal : (n : ℕ) → Expr → NormalForm n
normal n (var i) = nvar n i
normal n :0 = nzero n
normal n :1 = none n
normal n (a :+ b) = nadd n (normal n a) (normal n b)
normal n (a :- b) = nadd n (normal n a) (nneg n (normal n b))
normal n (a :* b) = nmul n (normal n a) (normal n b)
normal n (neg a) = nneg n (normal n a)

abbrev pub same : ℕ → Expr → Expr → Bool
same n a b = null n (normal n (a :- b))

abbrev pub len : {E : Type 0} → List E → ℕ
len [] = zero
len (x ∷ l) = suc (len l)

module _ {E : Type 0} (R : Ring E) where
  open R use {zero as 𝟘, one as 𝟙, add as ◌⊕◌, neg as ⊖◌, mul as ◌⊙◌}

  infixl 60 ◌⊕◌
  infixl 70 ◌⊙◌
  infix 80 ⊖◌
  abbrev pub look : List E → ℕ → E
  look [] i = 𝟘
  look (x ∷ l) zero = x
  look (x ∷ l) (suc i) = look l i

  abbrev pub eval : List E → Expr → E
  eval l (var i) = look l i
  eval l :0 = 𝟘
  eval l :1 = 𝟙
  eval l (a :+ b) = eval l a ⊕ eval l b
  eval l (a :- b) = eval l a ⊕ ⊖ eval l b
  eval l (a :* b) = eval l a ⊙ eval l b
  eval l (neg a) = ⊖ eval l a

  -- numbers in the ring
  times : ℕ → E
  times zero = 𝟘
  times (suc n) = 𝟙 ⊕ times n

  times_add : (m n : ℕ) → times (m + n) ≡ times m ⊕ times n
  unfolding times
  times_add zero n = rw (NatL.zero-add n) (sym (zero_add R _))
  times_add (suc m) n = ap times (NatL.suc-add m n) ∙ ap (λ x. 𝟙 ⊕ x) (times_add m n) ∙ sym (R.add_assoc _ _ _)

  times_mul : (m n : ℕ) → times (m * n) ≡ times m ⊙ times n
  unfolding times
  times_mul zero n = rw (NatL.zero-mul n) (sym (zero_mul R _))
  times_mul (suc m) n = ap times (NatL.suc-mul m n) ∙ times_add (m * n) n ∙ ap (λ x. x ⊕ times n) (times_mul m n) ∙ dist _ _
    where
      dist : (a b : E) → a ⊙ b ⊕ b ≡ (𝟙 ⊕ a) ⊙ b
      dist a b = simp ring

  -- the value of a normal form
  horner : {A : Type 0} → E → (A → E) → List A → E
  horner x v [] = 𝟘
  horner x v (a ∷ p) = v a ⊕ x ⊙ horner x v p

  val : (l : List E) → NormalForm (len l) → E
  val [] a = times a.0 ⊕ ⊖ times a.1
  val (x ∷ l) a = horner x (val l) a

  module _ {A : Type 0} (x : E) (v : A → E) where
    h_add : (f : A → A → A) → ((a b : A) → v (f a b) ≡ v a ⊕ v b) → (p q : List A) → horner x v (ladd f p q) ≡ horner x v p ⊕ horner x v q
    unfolding horner
    h_add f h [] q = sym (zero_add R _)
    h_add f h (a ∷ p) [] = sym (add_zero R _)
    h_add f h (a ∷ p) (b ∷ q) = ap₂ (λ s t. s ⊕ x ⊙ t) (h a b) (h_add f h p q) ∙ law _ _ _ _
      where
        law : (a b c d : E) → a ⊕ b ⊕ x ⊙ (c ⊕ d) ≡ a ⊕ x ⊙ c ⊕ (b ⊕ x ⊙ d)
        law a b c d = simp ring

    h_map : (f : A → A) (c : E) → ((a : A) → v (f a) ≡ c ⊙ v a) → (p : List A) → horner x v (map f p) ≡ c ⊙ horner x v p
    unfolding horner
    h_map f c h [] = sym (mul_zero R c)
    h_map f c h (a ∷ p) = ap₂ (λ s t. s ⊕ x ⊙ t) (h a) (h_map f c h p) ∙ law _ _
      where
        law : (a b : E) → c ⊙ a ⊕ x ⊙ (c ⊙ b) ≡ c ⊙ (a ⊕ x ⊙ b)
        law a b = simp ring

    h_mul : (z : A) (f m : A → A → A) → v z ≡ 𝟘 → ((a b : A) → v (f a b) ≡ v a ⊕ v b) → ((a b : A) → v (m a b) ≡ v a ⊙ v b) → (p q : List A) → horner x v (lmul z f m p q) ≡ horner x v p ⊙ horner x v q
    unfolding horner
    h_mul z f m hz hf hm [] q = sym (zero_mul R _)
    h_mul z f m hz hf hm (a ∷ p) q =
        h_add f hf (map (m a) q) (z ∷ lmul z f m p q) ∙ ap₂ (λ s t. s ⊕ t) (h_map (m a) (v a) (hm a) q) (ap₂ (λ s t. s ⊕ x ⊙ t) hz (h_mul z f m hz hf hm p q)) ∙ law _ _ _
      where
        law : (a b c : E) → a ⊙ c ⊕ (𝟘 ⊕ x ⊙ (b ⊙ c)) ≡ (a ⊕ x ⊙ b) ⊙ c
        law a b c = simp ring

    h_null : (t : A → Bool) → ((a : A) → T (t a) → v a ≡ 𝟘) → (p : List A) → T (lall t p) → horner x v p ≡ 𝟘
    unfolding horner
    h_null t h [] ok = refl
    h_null t h (a ∷ p) ok = let o = both (t a) (lall t p) ok in ap₂ (λ s t. s ⊕ x ⊙ t) (h a o.0) (h_null t h p o.1) ∙ simp ring

  v_zero : (l : List E) → val l (nzero (len l)) ≡ 𝟘
  unfolding val horner times
  v_zero [] = R.add_neg 𝟘
  v_zero (x ∷ l) = refl

  v_one : (l : List E) → val l (none (len l)) ≡ 𝟙
  unfolding val horner times
  v_one [] = simp ring
  v_one (x ∷ l) = ap (λ s. s ⊕ x ⊙ 𝟘) (v_one l) ∙ simp ring

  v_add : (l : List E) (a b : NormalForm (len l)) → val l (nadd (len l) a b) ≡ val l a ⊕ val l b
  unfolding val
  v_add [] a b = ap₂ (λ s t. s ⊕ ⊖ t) (times_add a.0 b.0) (times_add a.1 b.1) ∙ law _ _ _ _
    where
      law : (p q r s : E) → p ⊕ q ⊕ ⊖ (r ⊕ s) ≡ p ⊕ ⊖ r ⊕ (q ⊕ ⊖ s)
      law p q r s = simp ring
  v_add (x ∷ l) a b = h_add x (val l) (nadd (len l)) (v_add l) a b

  v_neg : (l : List E) (a : NormalForm (len l)) → val l (nneg (len l) a) ≡ ⊖ val l a
  unfolding val
  v_neg [] a = law _ _
    where
      law : (p q : E) → p ⊕ ⊖ q ≡ ⊖ (q ⊕ ⊖ p)
      law p q = simp ring
  v_neg (x ∷ l) a = h_map x (val l) (nneg (len l)) (⊖ 𝟙) (λ b. v_neg l b ∙ law _) a ∙ sym (law _)
    where
      law : (p : E) → ⊖ p ≡ (⊖ 𝟙) ⊙ p
      law p = simp ring

  v_mul : (l : List E) (a b : NormalForm (len l)) → val l (nmul (len l) a b) ≡ val l a ⊙ val l b
  unfolding val
  v_mul [] a b =
      ap₂ (λ s t. s ⊕ ⊖ t) (times_add (a.0 * b.0) (a.1 * b.1) ∙ ap₂ ◌⊕◌ (times_mul a.0 b.0) (times_mul a.1 b.1)) (times_add (a.0 * b.1) (a.1 * b.0) ∙ ap₂ ◌⊕◌ (times_mul a.0 b.1) (times_mul a.1 b.0)) ∙ law _ _ _ _
    where
      law : (p q r s : E) → p ⊙ r ⊕ q ⊙ s ⊕ ⊖ (p ⊙ s ⊕ q ⊙ r) ≡ (p ⊕ ⊖ q) ⊙ (r ⊕ ⊖ s)
      law p q r s = simp ring_eq
  v_mul (x ∷ l) a b = h_mul x (val l) (nzero (len l)) (nadd (len l)) (nmul (len l)) (v_zero l) (v_add l) (v_mul l) a b

  v_var : (l : List E) (i : ℕ) → val l (nvar (len l) i) ≡ look l i
  unfolding val horner
  v_var [] i = v_zero []
  v_var (x ∷ l) zero = ap₂ (λ s t. s ⊕ x ⊙ (t ⊕ x ⊙ 𝟘)) (v_zero l) (v_one l) ∙ simp ring
  v_var (x ∷ l) (suc i) = ap (λ s. s ⊕ x ⊙ 𝟘) (v_var l i) ∙ law _
    where
      law : (a : E) → a ⊕ x ⊙ 𝟘 ≡ a
      law a = simp ring

  v_null : (l : List E) (a : NormalForm (len l)) → T (null (len l) a) → val l a ≡ 𝟘
  unfolding val
  v_null [] a ok = rw (eqb→eq a.0 a.1 ok) (R.add_neg _)
  v_null (x ∷ l) a ok = h_null x (val l) (null (len l)) (v_null l) a ok

  sound : (l : List E) (e : Expr) → val l (normal (len l) e) ≡ eval l e
  sound l (var i) = v_var l i
  sound l :0 = v_zero l
  sound l :1 = v_one l
  sound l (a :+ b) = v_add l _ _ ∙ ap₂ ◌⊕◌ (sound l a) (sound l b)
  sound l (a :- b) = v_add l _ _ ∙ ap₂ ◌⊕◌ (sound l a) (v_neg l _ ∙ ap ⊖◌ (sound l b))
  sound l (a :* b) = v_mul l _ _ ∙ ap₂ ◌⊙◌ (sound l a) (sound l b)
  sound l (neg a) = v_neg l _ ∙ ap ⊖◌ (sound l a)

  pub solve : (l : List E) (a b : Expr) → T (same (len l) a b) → eval l a ≡ eval l b
  solve l a b ok = sub_zero→eq R _ _ (sym (sound l (a :- b)) ∙ v_null l _ ok)

  -- a term of the ring, as an expression over the terms of the list
  pub record Quoted (l : List E) (x : E) : Type 0 where
    pub expr : Expr
    pub is : eval l expr ≡ x

  module _ {l : List E} where
    abbrev pub q_zero : Quoted l 𝟘
    q_zero = record { expr = :0; is = refl }

    abbrev pub q_one : Quoted l 𝟙
    q_one = record { expr = :1; is = refl }

    abbrev pub q_add : {a b : E} → Quoted l a → Quoted l b → Quoted l (a ⊕ b)
    q_add p q = record { expr = p.expr :+ q.expr; is = ap₂ ◌⊕◌ p.is q.is }

    abbrev pub q_mul : {a b : E} → Quoted l a → Quoted l b → Quoted l (a ⊙ b)
    q_mul p q = record { expr = p.expr :* q.expr; is = ap₂ ◌⊙◌ p.is q.is }

    abbrev pub q_neg : {a : E} → Quoted l a → Quoted l (⊖ a)
    q_neg p = record { expr = neg p.expr; is = ap ⊖◌ p.is }

  -- a term of the list is its place there
  abbrev pub q_0 : {x : E} {l : List E} → Quoted (x ∷ l) x
  q_0 = record { expr = var 0; is = refl }

  abbrev pub q_1 : {x a0 : E} {l : List E} → Quoted (a0 ∷ x ∷ l) x
  q_1 = record { expr = var 1; is = refl }

  abbrev pub q_2 : {x a0 a1 : E} {l : List E} → Quoted (a0 ∷ a1 ∷ x ∷ l) x
  q_2 = record { expr = var 2; is = refl }

  abbrev pub q_3 : {x a0 a1 a2 : E} {l : List E} → Quoted (a0 ∷ a1 ∷ a2 ∷ x ∷ l) x
  q_3 = record { expr = var 3; is = refl }

  abbrev pub q_4 : {x a0 a1 a2 a3 : E} {l : List E} → Quoted (a0 ∷ a1 ∷ a2 ∷ a3 ∷ x ∷ l) x
  q_4 = record { expr = var 4; is = refl }

  abbrev pub q_5 : {x a0 a1 a2 a3 a4 : E} {l : List E} → Quoted (a0 ∷ a1 ∷ a2 ∷ a3 ∷ a4 ∷ x ∷ l) x
  q_5 = record { expr = var 5; is = refl }

  abbrev pub q_6 : {x a0 a1 a2 a3 a4 a5 : E} {l : List E} → Quoted (a0 ∷ a1 ∷ a2 ∷ a3 ∷ a4 ∷ a5 ∷ x ∷ l) x
  q_6 = record { expr = var 6; is = refl }

  abbrev pub q_7 : {x a0 a1 a2 a3 a4 a5 a6 : E} {l : List E} → Quoted (a0 ∷ a1 ∷ a2 ∷ a3 ∷ a4 ∷ a5 ∷ a6 ∷ x ∷ l) x
  q_7 = record { expr = var 7; is = refl }

  abbrev pub q_8 : {x a0 a1 a2 a3 a4 a5 a6 a7 : E} {l : List E} → Quoted (a0 ∷ a1 ∷ a2 ∷ a3 ∷ a4 ∷ a5 ∷ a6 ∷ a7 ∷ x ∷ l) x
  q_8 = record { expr = var 8; is = refl }

  abbrev pub q_9 : {x a0 a1 a2 a3 a4 a5 a6 a7 a8 : E} {l : List E} → Quoted (a0 ∷ a1 ∷ a2 ∷ a3 ∷ a4 ∷ a5 ∷ a6 ∷ a7 ∷ a8 ∷ x ∷ l) x
  q_9 = record { expr = var 9; is = refl }

  abbrev pub q_10 : {x a0 a1 a2 a3 a4 a5 a6 a7 a8 a9 : E} {l : List E} → Quoted (a0 ∷ a1 ∷ a2 ∷ a3 ∷ a4 ∷ a5 ∷ a6 ∷ a7 ∷ a8 ∷ a9 ∷ x ∷ l) x
  q_10 = record { expr = var 10; is = refl }

  abbrev pub q_11 : {x a0 a1 a2 a3 a4 a5 a6 a7 a8 a9 a10 : E} {l : List E} → Quoted (a0 ∷ a1 ∷ a2 ∷ a3 ∷ a4 ∷ a5 ∷ a6 ∷ a7 ∷ a8 ∷ a9 ∷ a10 ∷ x ∷ l) x
  q_11 = record { expr = var 11; is = refl }

  pub record Sides (l : List E) (x y : E) : Type 0 where
    pub left : Quoted l x
    pub right : Quoted l y

  abbrev pub q_sides : {l : List E} {x y : E} → Quoted l x → Quoted l y → Sides l x y
  q_sides p q = record { left = p; right = q }

  pub ruleset quoting = (q_sides, q_add, q_mul, q_neg, q_zero, q_one, q_0, q_1, q_2, q_3, q_4, q_5, q_6, q_7, q_8, q_9, q_10, q_11)

  -- An equation between terms of the ring, over a list of at most twelve terms that stand for unknowns: `by_ring R l (search quoting depth 30) tt`
  pub by_ring : (l : List E) {x y : E} (p : Sides l x y) → T (same (len l) p.left.expr p.right.expr) → x ≡ y
  by_ring l p ok = sym p.left.is ∙ solve l p.left.expr p.right.expr ok ∙ p.right.is
