-- Units and monic elements of a ring and of its polynomials: of the elements that divide one another one is monic.
use Rattle.std.proofs.Common.{◌≡◌, suc, ◌+◌, ◌≤◌, [], ◌∷◌, sym, ap, ◌∙◌, subst, ap₂, arith}
use mathlib.Core.HLevel.{Discrete}
use Rattle.algebra.specs.Ring.{Ring, combine, zero_mul, mul_one, one_mul, mul_comm}
use Rattle.algebra.specs.Solver.{by_ring, quoting}
use Rattle.algebra.specs.Divisors.{Divides, Invertible, Greatest}
use Rattle.algebra.specs.Series.{at_one}
use Rattle.algebra.specs.Bounded.{Domain, Any}
use Rattle.algebra.specs.Polynomial.{Poly, poly, size, of_one}
use Rattle.algebra.specs.Change.{number, number_one, number_mul}
use Rattle.algebra.specs.Field.{Field}
use Rattle.algebra.specs.Lead.{LeadIs}
use Rattle.algebra.proofs.Divisors.{associates, cancel}
use Rattle.algebra.proofs.Degrees.{number_coef, number_size, leading, below_size, constant_is, coef_zero, coef_scale, coef_mul, size_of_zero, size_product, size_scale, poly_domain}

-- the property M picks one of the elements that divide one another, unless they are zero
pub record MonicForms {E : Type 0} (R : Ring E) (M : E → Type 0) : Type 0 where
  pub nonzero : (a : E) → M a → ¬ (a ≡ R.zero)
  pub product : (a b : E) → M a → M b → M (R.mul a b)
  pub unique : (a b : E) → M a → M b → Divides R a b → Divides R b a → a ≡ b
  pub multiple : (a : E) → ¬ (a ≡ R.zero) → (v : E) × Invertible R v × M (R.mul a v)

-- a monic greatest common divisor is the only one
pub greatest_unique : {E : Type 0} {R : Ring E} {M : E → Type 0} → MonicForms R M → {a b g h : E} → Greatest R a b g → Greatest R a b h → M g → M h → g ≡ h
greatest_unique N {a} {b} {g} {h} s t m n = N.unique g h m n (t.greatest g s.left s.right) (s.greatest h t.left t.right)

-- in a field one is picked
pub field_forms : {E : Type 0} (F : Field E) → MonicForms F.ring (λ a. a ≡ F.ring.one)
field_forms F = record {
  nonzero = λ a e z. F.zero≢one (sym z ∙ e);
  product = λ a b e f. ap₂ F.ring.mul e f ∙ mul_one F.ring _;
  unique = λ a b e f p q. e ∙ sym f;
  multiple = λ a n. (F.inv a, (a, sym (F.mul_inv a n) ∙ mul_comm F.ring _ _), F.mul_inv a n);
}

module _ {E : Type 0} (R : Ring E) (eq : Discrete E) (D : Domain R Any) (zero≢one : ¬ (R.zero ≡ R.one)) where
  open R use {zero as 𝟘, one as 𝟙, mul as ◌⊙◌}

  abbrev S : Ring (Poly R)
  S = poly R eq

  open poly R eq use {zero as 𝟎, one as 𝟏, mul as ◌⊠◌}

  infixl 70 ◌⊙◌
  infixl 70 ◌⊠◌
  pub poly_zero≢one : ¬ (𝟎 ≡ 𝟏)
  poly_zero≢one e = zero≢one (sym (coef_zero R eq 0) ∙ ap (λ (p : Poly R). p.0 0) e ∙ ap (λ f. f 0) (of_one R eq) ∙ at_one R)

  unit_nonzero : (p : Poly R) → Invertible S p → ¬ (p ≡ 𝟎)
  unit_nonzero p (q, e) z = poly_zero≢one (sym (e ∙ ap (λ x. x ⊠ q) z ∙ zero_mul S q))

  -- the units are the units among the constants
  pub unit_constant : (p : Poly R) → Invertible S p → (c : E) × Invertible R c × (p ≡ number R eq c)
  unit_constant p (q, e) =
      let np = unit_nonzero p (q, e) in
      let nq = unit_nonzero q (p, e ∙ mul_comm S _ _) in
      let s = size_product R eq D p q np nq in
      let one = ap (size R) (number_one R eq ∙ e) in
      let single = number_size R eq 𝟙 (λ z. zero≢one (sym z)) in
      let lp = (leading R eq p np).is_size in
      let lq = (leading R eq q nq).is_size in
      let sp : size R p ≤ 1 = omega arith in
      let sq : size R q ≤ 1 = omega arith in
      (p.0 0, (q.0 0, sym (number_coef R eq 𝟙) ∙ ap (λ (r : Poly R). r.0 0) (number_one R eq ∙ e) ∙ coef_mul R eq 0 0 p q (below_size R eq p 1 sp) (below_size R eq q 1 sq)), constant_is R eq p sp)

  pub constant_unit : (c : E) → Invertible R c → Invertible S (number R eq c)
  constant_unit c (w, e) = (number R eq w, sym (number_one R eq) ∙ ap (number R eq) e ∙ number_mul R eq c w)

  pub invertible_nonzero : (c : E) → Invertible R c → ¬ (c ≡ 𝟘)
  invertible_nonzero c (w, e) z = zero≢one (sym (e ∙ ap (λ x. x ⊙ w) z ∙ zero_mul R w))

  module _ {M : E → Type 0} (N : MonicForms R M) where
    monic_nonzero : (p : Poly R) → LeadIs R M p → ¬ (p ≡ 𝟎)
    monic_nonzero p (m, s, a) z =
        let e = ap (size R) z ∙ size_of_zero R eq in
        absurd (omega arith)

    monic_product : (p q : Poly R) → LeadIs R M p → LeadIs R M q → LeadIs R M (p ⊠ q)
    monic_product p q (m, s, a) (n, t, b) =
        let e = size_product R eq D p q (monic_nonzero p (m, s, a)) (monic_nonzero q (n, t, b)) in
        (m + n, omega arith, subst M (sym (coef_mul R eq m n p q (below_size R eq p (suc m) (omega arith)) (below_size R eq q (suc n) (omega arith)))) (N.product _ _ a b))

    monic_unique : (p q : Poly R) → LeadIs R M p → LeadIs R M q → Divides S p q → Divides S q p → p ≡ q
    monic_unique p q (m, s, a) (n, t, b) (u, e) q-p = go (unit_constant u (associates S (poly_domain R eq D) nq q-p (u, e)))
      where
        np : ¬ (p ≡ 𝟎)
        np = monic_nonzero p (m, s, a)

        nq : ¬ (q ≡ 𝟎)
        nq = monic_nonzero q (n, t, b)

        go : (c : E) × Invertible R c × (u ≡ number R eq c) → p ≡ q
        go (c, (w, f), h) =
            let is : q ≡ number R eq c ⊠ p = e ∙ mul_comm S _ _ ∙ ap (λ x. x ⊠ p) h in
            let z = ap (size R) is ∙ size_scale R eq D c p (invertible_nonzero c (w, f)) np in
            let same_deg : n ≡ m = omega arith in
            let top : q.0 m ≡ c ⊙ p.0 m = ap (λ (r : Poly R). r.0 m) is ∙ coef_scale R eq c p m in
            let b' : M (q.0 m) = subst (λ k. M (q.0 k)) same_deg b in
            let one_lead : p.0 m ≡ q.0 m = N.unique _ _ a b' (c, top ∙ mul_comm R _ _) (w, back _ _ _ _ f top) in
            let c_one : 𝟙 ≡ c = cancel R D (N.nonzero _ a) (mul_one R _ ∙ one_lead ∙ top ∙ mul_comm R _ _) in
            sym (is ∙ ap (λ x. number R eq x ⊠ p) (sym c_one) ∙ ap (λ x. x ⊠ p) (number_one R eq) ∙ one_mul S p)
          where
            back : (c w x y : E) → 𝟙 ≡ c ⊙ w → y ≡ c ⊙ x → x ≡ y ⊙ w
            back c w x y f h = combine R x f (combine R (R.neg w) h (by_ring R (c ∷ w ∷ x ∷ y ∷ []) (search quoting depth 30) tt))

    monic_multiple : (p : Poly R) → ¬ (p ≡ 𝟎) → (v : Poly R) × Invertible S v × LeadIs R M (p ⊠ v)
    monic_multiple p n =
        let l = leading R eq p n in
        let (v, w, mon) = N.multiple (p.0 l.deg) l.nonzero in
        let nv = invertible_nonzero v w in
        let z = ap (size R) (mul_comm S p (number R eq v)) ∙ size_scale R eq D v p nv n in
        let e : (p ⊠ number R eq v).0 l.deg ≡ p.0 l.deg ⊙ v = ap (λ (r : Poly R). r.0 l.deg) (mul_comm S _ _) ∙ coef_scale R eq v p l.deg ∙ mul_comm R _ _ in
        (number R eq v, constant_unit v w, (l.deg, z ∙ l.is_size, subst M (sym e) mon))

    -- the monic polynomials are those whose leading coefficient is monic
    pub poly_forms : MonicForms S (LeadIs R M)
    poly_forms = record { nonzero = monic_nonzero; product = monic_product; unique = monic_unique; multiple = monic_multiple }

    pub constant_monic : (c : E) → M c → LeadIs R M (number R eq c)
    constant_monic c m = (0, number_size R eq c (N.nonzero c m), subst M (sym (number_coef R eq c)) m)
