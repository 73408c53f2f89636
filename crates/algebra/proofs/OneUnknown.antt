-- The theorems on polynomials in one unknown over a field.
use Rattle.std.proofs.Common.{◌≡◌, pred, [], ◌∷◌, sym, ap, ◌∙◌, arith}
use Rattle.algebra.specs.Ring.{combine, add_cancel, zero_mul, sub_zero→eq}
use Rattle.algebra.specs.Solver.{by_ring, quoting}
use Rattle.algebra.specs.Divisors.{Divides, Invertible, Associates, Greatest, Combined}
use Rattle.algebra.specs.Polynomial.{Poly, poly, poly_discrete, size, size_least, zero?, evaluate}
use Rattle.algebra.specs.Change.{number}
use Rattle.algebra.specs.Field.{Field, field_domain}
use Rattle.algebra.specs.Lead.{Monic, Normal}
use Rattle.algebra.specs.OneUnknown.{Evaluation, Quotient, Division, Degrees, Gcd}
use Rattle.algebra.proofs.Divisors.{BezoutDomain, divides_trans, coprime_divides, coprime_mul, times_unit, combined_times_unit, coprime_greatest, greatest_coprime}
use Rattle.algebra.proofs.Euclid.{size_zero, quotient, combination}
use Rattle.algebra.proofs.Degrees.{leading, below_size, below_difference, size_of_zero, size_product, lead_product, poly_domain}
use Rattle.algebra.proofs.Roots.{root, roots}
use Rattle.algebra.proofs.Monic.{MonicForms, greatest_unique, field_forms, poly_forms, poly_zero≢one, unit_constant, constant_unit, invertible_nonzero}

module _ {E : Type 0} (F : Field E) where
  open F use {ring as K, discrete as eq, zero≢one, inv, mul_inv}
  open poly K eq use {zero as 𝟘, one as 𝟙, add as ◌⊕◌, neg as ⊖◌, mul as ◌⊙◌}

  infixl 60 ◌⊕◌
  infixl 70 ◌⊙◌
  infix 80 ⊖◌
  pub evaluation : Evaluation F
  unfolding evaluate
  evaluation = record { zero = λ x. (evaluate K eq x).map_zero; one = λ x. (evaluate K eq x).map_one; sum = λ x. (evaluate K eq x).map_add; product = λ x. (evaluate K eq x).map_mul; root = root F; roots = roots F }

  one_quotient : (p q : Poly K) (s t : Quotient F p q) → s.quo ≡ t.quo
  one_quotient p q s t = go (zero? K eq (s.quo ⊕ ⊖ t.quo))
    where
      difference : (q a b c d : Poly K) → a ⊙ q ⊕ b ≡ c ⊙ q ⊕ d → (a ⊕ ⊖ c) ⊙ q ≡ d ⊕ ⊖ b
      difference q a b c d e = combine (poly K eq) 𝟙 e (by_ring (poly K eq) (q ∷ a ∷ b ∷ c ∷ d ∷ []) (search quoting depth 30) tt)

      go : Dec (s.quo ⊕ ⊖ t.quo ≡ 𝟘) → s.quo ≡ t.quo
      go (yes z) = sub_zero→eq (poly K eq) _ _ z
      go (no n) =
          let bound = pred (size K q) in
          let i = s.less in
          let j = t.less in
          let small = size_least K (t.rem ⊕ ⊖ s.rem) bound (below_difference K eq bound t.rem s.rem (below_size K eq t.rem bound (omega arith)) (below_size K eq s.rem bound (omega arith))) in
          let large = size_product K eq (field_domain F) (s.quo ⊕ ⊖ t.quo) q n (λ z. let e = ap (size K) z ∙ size_of_zero K eq in omega arith) in
          let some = (leading K eq (s.quo ⊕ ⊖ t.quo) n).is_size in
          let same = ap (size K) (difference q _ _ _ _ (sym s.is ∙ t.is)) in
          absurd (omega arith)

  pub division : Division F
  division = record { quotient = quotient F; unique = λ p q s t. (one_quotient p q s t, add_cancel (poly K eq) (s.quo ⊙ q) s.rem t.rem (sym s.is ∙ t.is ∙ ap (λ x. x ⊙ q ⊕ t.rem) (sym (one_quotient p q s t)))) }

  pub degrees : Degrees F
  degrees = record { size_product = size_product K eq (field_domain F); lead_product = lead_product K eq (field_domain F) }

  -- the polynomials over a field, and their monic ones
  unfoldable pub polynomials : BezoutDomain (Poly K)
  polynomials = record { ring = poly K eq; discrete = poly_discrete K eq; domain = poly_domain K eq (field_domain F); zero≢one = poly_zero≢one K eq (field_domain F) zero≢one; gcd = combination F }

  pub monics : MonicForms (poly K eq) (Monic K)
  monics = poly_forms K eq (field_domain F) zero≢one (field_forms F)

  units_constant : (p : Poly K) → Invertible (poly K eq) p → (c : E) × ¬ (c ≡ K.zero) × (p ≡ number K eq c)
  units_constant p h = let (c, w, e) = unit_constant K eq (field_domain F) zero≢one p h in (c, invertible_nonzero K eq (field_domain F) zero≢one c w, e)

  constants_unit : (p : Poly K) → (c : E) × ¬ (c ≡ K.zero) × (p ≡ number K eq c) → Invertible (poly K eq) p
  constants_unit p (c, n, e) = rw e (constant_unit K eq (field_domain F) zero≢one c (inv c, sym (mul_inv c n)))

  monic_associate : (p : Poly K) → ¬ (p ≡ 𝟘) → (m : Poly K) × Monic K m × Associates (poly K eq) p m
  monic_associate p n = let (v, w, m) = monics.multiple p n in (p ⊙ v, m, times_unit (poly K eq) p w)

  normal_gcd : (p q : Poly K) → (t : Combined (poly K eq) p q) × Normal K t.gcd
  unfolding combined_times_unit
  normal_gcd p q = let g = combination F p q in go g (zero? K eq g.gcd)
    where
      go : (g : Combined (poly K eq) p q) → Dec (g.gcd ≡ 𝟘) → (t : Combined (poly K eq) p q) × Normal K t.gcd
      go g (yes z) = (g, λ n. absurd (n (ap (size K) z ∙ size_of_zero K eq)))
      go g (no n) = let (v, w, m) = monics.multiple g.gcd n in (combined_times_unit (poly K eq) w g, λ u. m)

  normal_gcd_unique : (p q g h : Poly K) → Greatest (poly K eq) p q g → Greatest (poly K eq) p q h → Normal K g → Normal K h → g ≡ h
  normal_gcd_unique p q g h s t m n = go (zero? K eq g) (zero? K eq h)
    where
      multiple : (a b : Poly K) → a ≡ 𝟘 → Divides (poly K eq) a b → b ≡ 𝟘
      multiple a b z (c, e) = e ∙ ap (λ x. x ⊙ c) z ∙ zero_mul (poly K eq) c

      go : Dec (g ≡ 𝟘) → Dec (h ≡ 𝟘) → g ≡ h
      go (yes z) d = z ∙ sym (multiple g h z (t.greatest g s.left s.right))
      go (no x) (yes z) = multiple h g z (s.greatest h t.left t.right) ∙ sym z
      go (no x) (no y) = greatest_unique monics s t (m (λ e. x (size_zero K eq g e))) (n (λ e. y (size_zero K eq h e)))

  pub gcd : Gcd F
  gcd = record {
    units = λ p. (units_constant p, constants_unit p);
    monic = monic_associate;
    monic_unique = λ p m n a b s t. monics.unique m n a b (divides_trans (poly K eq) s.1 t.0) (divides_trans (poly K eq) t.1 s.0);
    gcd = normal_gcd;
    gcd_unique = normal_gcd_unique;
    coprime = λ p q. (coprime_greatest (poly K eq), greatest_coprime (poly K eq) (combination F p q));
    coprime_divides = λ c p q. coprime_divides (poly K eq);
    coprime_product = λ c p q. coprime_mul (poly K eq);
  }
