-- Commutative rings, as operations with their equations, and what follows from these.
use Rattle.std.specs.Prelude.{◌≡◌, ◌↔◌}
use Rattle.std.proofs.Math.Path.{sym}
use Rattle.std.proofs.Common.{◌∙◌, ap}

pub record Ring (E : Type 0) : Type 0 where
  pub zero : E
  pub one : E
  pub add : E → E → E
  pub neg : E → E
  pub mul : E → E → E
  pub add_assoc : (a b c : E) → add (add a b) c ≡ add a (add b c)
  pub add_comm : (a b : E) → add a b ≡ add b a
  pub add_zero : (a : E) → add a zero ≡ a
  pub add_neg : (a : E) → add a (neg a) ≡ zero
  pub mul_assoc : (a b c : E) → mul (mul a b) c ≡ mul a (mul b c)
  pub mul_comm : (a b : E) → mul a b ≡ mul b a
  pub mul_one : (a : E) → mul a one ≡ a
  pub mul_add : (a b c : E) → mul a (add b c) ≡ add (mul a b) (mul a c)

module _ {E : Type 0} (R : Ring E) where
  open R use {zero as 𝟘, one as 𝟙, add as ◌⊕◌, neg as ⊖◌, mul as ◌⊙◌}

  infixl 60 ◌⊕◌
  infixl 70 ◌⊙◌
  infix 80 ⊖◌
  pub add_assoc : (a b c : E) → (a ⊕ b) ⊕ c ≡ a ⊕ (b ⊕ c)
  add_assoc = R.add_assoc

  pub add_comm : (a b : E) → a ⊕ b ≡ b ⊕ a
  add_comm = R.add_comm

  pub add_zero : (a : E) → a ⊕ 𝟘 ≡ a
  add_zero = R.add_zero

  pub add_neg : (a : E) → a ⊕ ⊖ a ≡ 𝟘
  add_neg = R.add_neg

  pub mul_assoc : (a b c : E) → (a ⊙ b) ⊙ c ≡ a ⊙ (b ⊙ c)
  mul_assoc = R.mul_assoc

  pub mul_comm : (a b : E) → a ⊙ b ≡ b ⊙ a
  mul_comm = R.mul_comm

  pub mul_one : (a : E) → a ⊙ 𝟙 ≡ a
  mul_one = R.mul_one

  pub mul_add : (a b c : E) → a ⊙ (b ⊕ c) ≡ a ⊙ b ⊕ a ⊙ c
  mul_add = R.mul_add

  pub zero_add : (a : E) → 𝟘 ⊕ a ≡ a
  zero_add a = add_comm 𝟘 a ∙ add_zero a

  pub neg_add : (a : E) → ⊖ a ⊕ a ≡ 𝟘
  neg_add a = add_comm _ _ ∙ add_neg a

  pub add_left_comm : (a b c : E) → a ⊕ (b ⊕ c) ≡ b ⊕ (a ⊕ c)
  add_left_comm a b c = sym (add_assoc a b c) ∙ ap (λ x. x ⊕ c) (add_comm a b) ∙ add_assoc b a c

  pub mul_left_comm : (a b c : E) → a ⊙ (b ⊙ c) ≡ b ⊙ (a ⊙ c)
  mul_left_comm a b c = sym (mul_assoc a b c) ∙ ap (λ x. x ⊙ c) (mul_comm a b) ∙ mul_assoc b a c

  pub one_mul : (a : E) → 𝟙 ⊙ a ≡ a
  one_mul a = mul_comm 𝟙 a ∙ mul_one a

  pub add_mul : (a b c : E) → (a ⊕ b) ⊙ c ≡ a ⊙ c ⊕ b ⊙ c
  add_mul a b c = mul_comm _ c ∙ mul_add c a b ∙ simp (mul_comm)

  pub neg_add_cancel : (a b : E) → ⊖ a ⊕ (a ⊕ b) ≡ b
  neg_add_cancel a b = sym (add_assoc _ _ _) ∙ ap (λ x. x ⊕ b) (neg_add a) ∙ zero_add b

  pub add_cancel : (a b c : E) → a ⊕ b ≡ a ⊕ c → b ≡ c
  add_cancel a b c e = sym (neg_add_cancel a b) ∙ ap (λ x. ⊖ a ⊕ x) e ∙ neg_add_cancel a c

  pub mul_zero : (a : E) → a ⊙ 𝟘 ≡ 𝟘
  mul_zero a = add_cancel (a ⊙ 𝟘) _ _ (sym (mul_add a 𝟘 𝟘) ∙ simp (add_zero))

  pub zero_mul : (a : E) → 𝟘 ⊙ a ≡ 𝟘
  zero_mul a = mul_comm 𝟘 a ∙ mul_zero a

  pub neg_unique : (a b : E) → a ⊕ b ≡ 𝟘 → b ≡ ⊖ a
  neg_unique a b e = add_cancel a b (⊖ a) (e ∙ sym (add_neg a))

  pub mul_neg : (a b : E) → a ⊙ ⊖ b ≡ ⊖ (a ⊙ b)
  mul_neg a b = neg_unique _ _ (sym (mul_add a b (⊖ b)) ∙ ap (λ x. a ⊙ x) (add_neg b) ∙ mul_zero a)

  pub neg_mul : (a b : E) → (⊖ a) ⊙ b ≡ ⊖ (a ⊙ b)
  neg_mul a b = mul_comm _ b ∙ mul_neg b a ∙ ap ⊖◌ (mul_comm b a)

  pub neg_neg : (a : E) → ⊖ (⊖ a) ≡ a
  neg_neg a = sym (neg_unique (⊖ a) a (neg_add a))

  pub neg_zero : ⊖ 𝟘 ≡ 𝟘
  neg_zero = sym (neg_unique 𝟘 𝟘 (add_zero 𝟘))

  pub add_neg_cancel : (a b : E) → a ⊕ (⊖ a ⊕ b) ≡ b
  add_neg_cancel a b = sym (add_assoc _ _ _) ∙ ap (λ x. x ⊕ b) (add_neg a) ∙ zero_add b

  pub neg_sum : (a b : E) → ⊖ (a ⊕ b) ≡ ⊖ a ⊕ ⊖ b
  neg_sum a b = sym (neg_unique (a ⊕ b) _ (simp (add_assoc, add_left_comm b, add_neg_cancel, add_neg)))

  pub sub_zero→eq : (a b : E) → a ⊕ ⊖ b ≡ 𝟘 → a ≡ b
  sub_zero→eq a b e = sym (neg_neg a) ∙ sym (ap ⊖◌ (neg_unique a (⊖ b) e)) ∙ neg_neg b

  pub eq→sub_zero : (a b : E) → a ≡ b → a ⊕ ⊖ b ≡ 𝟘
  eq→sub_zero a b e = ap (λ x. x ⊕ ⊖ b) e ∙ add_neg b

  -- `simp ring` brings a term to a sorted sum of products, where neighbours that cancel are gone
  pub ruleset ring = (add_zero, zero_add, mul_one, one_mul, mul_zero, zero_mul, neg_zero, neg_neg, neg_sum, mul_neg, neg_mul, mul_add, add_mul, add_neg, neg_add, add_neg_cancel, neg_add_cancel, add_assoc, add_comm, add_left_comm, mul_assoc, mul_comm, mul_left_comm)

  -- A difference of two sums, kept closed. `simp ring_eq` brings each side of an equation to one such difference, carries what is taken away over to the other side, and sorts.
  pub ◌∸◌ : E → E → E
  p ∸ n = p ⊕ ⊖ n

  infixl 60 ◌∸◌
  pub d_neg : (x : E) → ⊖ x ≡ 𝟘 ∸ x
  unfolding ◌∸◌
  d_neg x = sym (zero_add _)

  pub d_neg_d : (p n : E) → ⊖ (p ∸ n) ≡ n ∸ p
  unfolding ◌∸◌
  d_neg_d p n = simp ring

  pub d_add : (p n q m : E) → (p ∸ n) ⊕ (q ∸ m) ≡ (p ⊕ q) ∸ (n ⊕ m)
  unfolding ◌∸◌
  d_add p n q m = simp ring

  pub d_add_l : (p n x : E) → (p ∸ n) ⊕ x ≡ (p ⊕ x) ∸ n
  unfolding ◌∸◌
  d_add_l p n x = simp ring

  pub d_add_r : (p n x : E) → x ⊕ (p ∸ n) ≡ (x ⊕ p) ∸ n
  unfolding ◌∸◌
  d_add_r p n x = simp ring

  pub d_mul_l : (p n x : E) → (p ∸ n) ⊙ x ≡ (p ⊙ x) ∸ (n ⊙ x)
  unfolding ◌∸◌
  d_mul_l p n x = simp ring

  pub d_mul_r : (p n x : E) → x ⊙ (p ∸ n) ≡ (x ⊙ p) ∸ (x ⊙ n)
  unfolding ◌∸◌
  d_mul_r p n x = simp ring

  pub d_d_l : (p n m : E) → (p ∸ n) ∸ m ≡ p ∸ (n ⊕ m)
  unfolding ◌∸◌
  d_d_l p n m = simp (◌∸◌, neg_sum, add_assoc)

  pub d_d_r : (p n m : E) → p ∸ (n ∸ m) ≡ (p ⊕ m) ∸ n
  unfolding ◌∸◌
  d_d_r p n m = simp (◌∸◌, ring)

  pub d_move : (p n x : E) → p ∸ n ≡ x → p ≡ x ⊕ n
  unfolding ◌∸◌
  d_move p n x e = rw (← e) (sym (simp ring))

  pub d_back : (p n x : E) → p ≡ x ⊕ n → p ∸ n ≡ x
  unfolding ◌∸◌
  d_back p n x e = rw e (simp (add_assoc, add_neg, add_zero))

  pub d_eq_l : (p n x : E) → (p ∸ n ≡ x) ↔ (p ≡ x ⊕ n)
  d_eq_l p n x = (d_move p n x, d_back p n x)

  pub d_eq_r : (p n x : E) → (x ≡ p ∸ n) ↔ (x ⊕ n ≡ p)
  d_eq_r p n x = (λ e. sym (d_move p n x (sym e)), λ e. sym (d_back p n x (sym e)))

  pub ruleset ring_eq = (d_eq_l, d_eq_r, d_add, d_add_l, d_add_r, d_neg_d, d_neg, d_mul_l, d_mul_r, d_d_l, d_d_r, add_zero, zero_add, mul_one, one_mul, mul_zero, zero_mul, mul_add, add_mul, add_assoc, add_comm, add_left_comm, mul_assoc, mul_comm, mul_left_comm)

  -- an equation, from one with k times another added: `combine R k e (simp ring_eq)`. Several nest.
  pub combine : (k : E) {u v s t : E} → u ≡ v → s ⊕ k ⊙ v ≡ t ⊕ k ⊙ u → s ≡ t
  combine k {u} {v} {s} {t} e h = add_cancel (k ⊙ v) s t (add_comm _ _ ∙ h ∙ ap (λ x. t ⊕ k ⊙ x) e ∙ add_comm _ _)
