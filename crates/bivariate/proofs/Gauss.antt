-- Gauss's lemma: a product of primitive polynomials is primitive. So a primitive polynomial that divides a constant multiple of another divides that one.
use Rattle.std.proofs.Common.{◌≡◌, ℕ, zero, suc, ◌+◌, ◌≤◌, [], ◌∷◌, sym, ap, ◌∙◌, arith}
use Rattle.algebra.specs.Ring.{Ring, combine, mul_zero, mul_comm}
use Rattle.algebra.specs.Solver.{by_ring, quoting}
use Rattle.algebra.specs.Divisors.{Divides, Invertible, Coprime, Combined}
use Rattle.algebra.specs.Polynomial.{Poly, poly, size, zero?}
use Rattle.algebra.specs.Change.{number, number_mul}
use Rattle.algebra.proofs.Divisors.{BezoutDomain, cancel, divides_add, divides_rest, divides_mul, divides_zero, divides_trans, divides_eq, coprime_mul, coprime_unit, combined_coprime}
use Rattle.algebra.proofs.Degrees.{number_nonzero, number_divides, Leading, leading, below_size, term, power, without_lead, coef_mul, poly_domain}
use Rattle.bivariate.specs.Primitive.{Primitive}
use Rattle.bivariate.proofs.Primitive.{split, primitive_divides, primitive_unit, primitive_nonzero, only_units_primitive, divides_each, part_primitive, part_size}

module _ {E : Type 0} (B : BezoutDomain E) where
  open B use {ring as R, discrete as eq, domain, gcd}
  open R use {zero as 𝟘}

  abbrev S : Ring (Poly R)
  S = poly R eq

  open poly R eq use {zero as 𝟎, one as 𝟏, add as ◌⊞◌, neg as ⊟◌, mul as ◌⊠◌}

  infixl 60 ◌⊞◌
  infixl 70 ◌⊠◌
  infix 80 ⊟◌
  -- with Gauss's lemma for shorter polynomials, what divides all coefficients of F H is coprime to the leading coefficient of F
  module _ (n : ℕ) (ih : (F H : Poly R) → Primitive R F → Primitive R H → size R F + size R H ≤ n → Primitive R (F ⊠ H)) where
    coprime_lead : (F H : Poly R) → Primitive R F → Primitive R H → (m : ℕ) → size R F ≡ suc m → m + size R H ≤ n → (c : E) → Divides S (number R eq c) (F ⊠ H) → Coprime R c (F.0 m)
    coprime_lead F H pF pH m size-F le c c-FH = combined_coprime R g (primitive_unit B e F pF e_F)
      where
        g : Combined R c (F.0 m)
        g = gcd c (F.0 m)

        e : E
        e = g.gcd

        M : Poly R
        M = term R eq (F.0 m) m

        F1 : Poly R
        F1 = F ⊞ ⊟ M

        small : size R F1 ≤ m
        small = without_lead R eq F m (below_size R eq F (suc m) (omega arith))

        e_M : Divides S (number R eq e) M
        e_M = divides_mul S (power R eq m) (number_divides R eq g.greatest.right)

        e_FH : Divides S (number R eq e) (F ⊠ H)
        e_FH = divides_trans S (number_divides R eq g.greatest.left) c-FH

        apart : F ⊠ H ≡ M ⊠ H ⊞ F1 ⊠ H
        apart = by_ring S (F ∷ H ∷ M ∷ []) (search quoting depth 30) tt

        e_F1H : Divides S (number R eq e) (F1 ⊠ H)
        e_F1H = divides_rest S (divides_eq S apart e_FH) (divides_mul S H e_M)

        go : Dec (F1 ≡ 𝟎) → Divides S (number R eq e) F1
        go (yes z) = divides_eq S (sym z) (divides_zero S _)
        go (no k) =
            let t = split B F1 in
            let p = ih t.part H (part_primitive B F1 k t) pH (omega (arith, small, part_size B F1 k t)) in
            let f = primitive_divides B e t.content (t.part ⊠ H) p (divides_eq S (ap (λ x. x ⊠ H) t.is ∙ S.mul_assoc _ _ _) e_F1H) in
            divides_eq S (sym t.is) (divides_mul S t.part (number_divides R eq f))

        e_F : Divides S (number R eq e) F
        e_F = divides_eq S (by_ring S (F ∷ M ∷ []) (search quoting depth 30) tt) (divides_add S e_M (go (zero? R eq F1)))

  gauss_below : (n : ℕ) (F H : Poly R) → Primitive R F → Primitive R H → size R F + size R H ≤ n → Primitive R (F ⊠ H)
  gauss_below zero F H pF pH le =
      let l = (leading R eq F (primitive_nonzero B F pF)).is_size in
      absurd (omega arith)
  gauss_below (suc n) F H pF pH le = only_units_primitive B (F ⊠ H) (unit (gauss_below n) (leading R eq F (primitive_nonzero B F pF)) (leading R eq H (primitive_nonzero B H pH)))
    where
      unit : ((F H : Poly R) → Primitive R F → Primitive R H → size R F + size R H ≤ n → Primitive R (F ⊠ H)) → Leading R eq F → Leading R eq H → (d : E) → Divides S (number R eq d) (F ⊠ H) → Invertible R d
      unit ih l k d d-FH =
          let cF = coprime_lead n ih F H pF pH l.deg l.is_size (omega arith) d d-FH in
          let cH = coprime_lead n ih H F pH pF k.deg k.is_size (omega arith) d (divides_eq S (mul_comm S F H) d-FH) in
          coprime_unit R (coprime_mul R cF cH) (divides_eq R (coef_mul R eq l.deg k.deg F H l.below k.below) (divides_each B d (F ⊠ H) d-FH (l.deg + k.deg)))

  pub product_primitive : (F H : Poly R) → Primitive R F → Primitive R H → Primitive R (F ⊠ H)
  product_primitive F H pF pH = gauss_below (size R F + size R H) F H pF pH (omega arith)

  -- a primitive divisor of a constant multiple
  pub primitive_divisor : (D A : Poly R) (c : E) → Primitive R D → ¬ (c ≡ 𝟘) → Divides S D (number R eq c ⊠ A) → Divides S D A
  primitive_divisor D A c p n (Q, e) = go (zero? R eq Q)
    where
      gather : (c A D Q q T : Poly R) → c ⊠ A ≡ D ⊠ Q → Q ≡ q ⊠ T → q ⊠ (D ⊠ T) ≡ c ⊠ A
      gather c A D Q q T e f = combine S (⊟ 𝟏) e (combine S (⊟ D) f (by_ring S (c ∷ A ∷ D ∷ Q ∷ q ∷ T ∷ []) (search quoting depth 30) tt))

      divide : (c A D q T s : Poly R) → q ⊠ (D ⊠ T) ≡ c ⊠ A → q ≡ c ⊠ s → c ⊠ A ≡ c ⊠ (D ⊠ (s ⊠ T))
      divide c A D q T s e f = combine S (⊟ 𝟏) e (combine S (D ⊠ T) f (by_ring S (c ∷ A ∷ D ∷ q ∷ T ∷ s ∷ []) (search quoting depth 30) tt))

      nc : ¬ (number R eq c ≡ 𝟎)
      nc = number_nonzero R eq c n

      go : Dec (Q ≡ 𝟎) → Divides S D A
      go (yes z) = divides_eq S (sym (cancel S (poly_domain R eq domain) nc (e ∙ ap (λ x. D ⊠ x) z ∙ mul_zero S D ∙ sym (mul_zero S _)))) (divides_zero S D)
      go (no k) =
          let t = split B Q in
          let e' = gather _ _ _ _ _ _ e t.is in
          let (s, f) = primitive_divides B c t.content (D ⊠ t.part) (product_primitive D t.part p (part_primitive B Q k t)) (A, e') in
          (number R eq s ⊠ t.part, cancel S (poly_domain R eq domain) nc (divide _ _ _ _ _ _ e' (ap (number R eq) f ∙ number_mul R eq c s)))
