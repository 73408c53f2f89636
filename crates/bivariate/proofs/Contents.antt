-- The theorems on contents and Gauss's lemma for polynomials in x and y.
use Rattle.std.proofs.Common.{◌≡◌, [], ◌∷◌, sym, ap, ◌∙◌}
use Rattle.algebra.specs.Ring.{combine}
use Rattle.algebra.specs.Solver.{by_ring, quoting}
use Rattle.algebra.specs.Divisors.{Divides, Invertible}
use Rattle.algebra.specs.Polynomial.{poly, poly_discrete, size}
use Rattle.algebra.specs.Change.{poly₂, number_one, number_mul}
use Rattle.algebra.specs.Field.{Field}
use Rattle.algebra.specs.Lead.{Monic}
use Rattle.algebra.proofs.Divisors.{divides_eq}
use Rattle.algebra.proofs.Degrees.{number_nonzero, size_scale}
use Rattle.algebra.proofs.OneUnknown.{polynomials, monics}
use Rattle.bivariate.specs.Primitive.{Primitive}
use Rattle.bivariate.specs.Degrees.{K[y], K[y][x], lift}
use Rattle.bivariate.specs.TwoUnknowns.{Content, Contents, Gauss}
use Rattle.bivariate.proofs.Primitive.{Split, split, content_nonzero, part_primitive, primitive_divides, primitive_unit, primitive_nonzero as nonzero-if-primitive, only_units_primitive, divisor_primitive as primitive-if-divisor, divides_each, each_divides}
use Rattle.bivariate.proofs.Gauss.{product_primitive, primitive_divisor}
use Rattle.bivariate.proofs.Domain.{domain_y, cancel_yx}

module _ {E : Type 0} (F : Field E) where
  open F use {ring as K, discrete as eq}
  open poly K eq use {zero as 𝟘, mul as ◌⊙◌}
  open poly₂ K eq use {zero as 𝟎, one as 𝟏, mul as ◌⊠◌}

  infixl 70 ◌⊙◌
  infixl 70 ◌⊠◌
  pub primitive_nonzero : (A : K[y][x] F) → Primitive (poly K eq) A → ¬ (A ≡ 𝟎)
  unfolding polynomials
  primitive_nonzero = nonzero-if-primitive (polynomials F)

  -- a divisor of a primitive polynomial is primitive
  pub divisor_primitive : (D A : K[y][x] F) → Primitive (poly K eq) A → Divides (poly₂ K eq) D A → Primitive (poly K eq) D
  unfolding polynomials
  divisor_primitive = primitive-if-divisor (polynomials F)

  -- what divides all coefficients of a multiple of a primitive polynomial divides the factor
  pub primitive_content : (d c : K[y] F) (A : K[y][x] F) → Primitive (poly K eq) A → Divides (poly₂ K eq) (lift F d) (lift F c ⊠ A) → Divides (poly K eq) d c
  unfolding polynomials
  primitive_content = primitive_divides (polynomials F)

  pub monic_nonzero : (c : K[y] F) → Monic K c → ¬ (c ≡ 𝟘)
  monic_nonzero = (monics F).nonzero

  pub lift_nonzero : (c : K[y] F) → ¬ (c ≡ 𝟘) → ¬ (lift F c ≡ 𝟎)
  lift_nonzero = number_nonzero (poly K eq) (poly_discrete K eq)

  pub part_size : {A : K[y][x] F} {c : K[y] F} {A' : K[y][x] F} → Content F A c A' → size (poly K eq) A ≡ size (poly K eq) A'
  part_size {A} {c} {A'} t = ap (size (poly K eq)) t.is ∙ size_scale (poly K eq) (poly_discrete K eq) (domain_y F) c A' (monic_nonzero c t.monic) (primitive_nonzero A' t.primitive)

  content : (A : K[y][x] F) → ¬ (A ≡ 𝟎) → (c : K[y] F) × (A' : K[y][x] F) × Content F A c A'
  unfolding polynomials
  content A n =
      let t = split (polynomials F) A in
      go t (part_primitive (polynomials F) A n t) ((monics F).multiple t.content (content_nonzero (polynomials F) A n t))
    where
      unit : (v w P : K[y][x] F) → 𝟏 ≡ v ⊠ w → P ≡ w ⊠ P ⊠ v
      unit v w P e = combine (poly₂ K eq) P e (by_ring (poly₂ K eq) (v ∷ w ∷ P ∷ []) (search quoting depth 30) tt)

      move : (c P v w : K[y][x] F) → 𝟏 ≡ v ⊠ w → c ⊠ P ≡ c ⊠ v ⊠ (w ⊠ P)
      move c P v w e = combine (poly₂ K eq) (c ⊠ P) e (by_ring (poly₂ K eq) (c ∷ P ∷ v ∷ w ∷ []) (search quoting depth 30) tt)

      go : (t : Split (polynomials F) A) → Primitive (poly K eq) t.part → (v : K[y] F) × Invertible (poly K eq) v × Monic K (t.content ⊙ v) → (c : K[y] F) × (A' : K[y][x] F) × Content F A c A'
      go t p (v, (w, e), m) =
          let e' = sym (number_one (poly K eq) (poly_discrete K eq)) ∙ ap (lift F) e ∙ number_mul (poly K eq) (poly_discrete K eq) v w in (
            t.content ⊙ v,
            lift F w ⊠ t.part,
            record {
              monic = m;
              primitive = divisor_primitive (lift F w ⊠ t.part) t.part p (lift F v, unit _ _ _ e');
              is = t.is ∙ move _ _ _ _ e' ∙ ap (λ x. x ⊠ (lift F w ⊠ t.part)) (sym (number_mul (poly K eq) (poly_discrete K eq) t.content v));
            },
          )

  one_content : {A : K[y][x] F} {c d : K[y] F} {A' A'' : K[y][x] F} → Content F A c A' → Content F A d A'' → (c ≡ d) × (A' ≡ A'')
  one_content {A} {c} {d} {A'} {A''} s t =
      let e = sym s.is ∙ t.is in
      let same = (monics F).unique c d s.monic t.monic (primitive_content c d A'' t.primitive (A', sym e)) (primitive_content d c A' s.primitive (A'', e)) in
      (same, cancel_yx F (lift_nonzero c (monic_nonzero c s.monic)) (e ∙ ap (λ x. lift F x ⊠ A'') (sym same)))

  pub contents : Contents F
  unfolding polynomials
  contents = record {
    content = content;
    unique = one_content;
    divides = λ {A} {c} {A'} t. divides_each (polynomials F) c A (A', t.is);
    greatest = λ {A} {c} {A'} t d h. primitive_content d c A' t.primitive (divides_eq (poly₂ K eq) t.is (each_divides (polynomials F) d A h));
    primitive = λ A. (λ p d h. primitive_unit (polynomials F) d A p (each_divides (polynomials F) d A h), λ h. only_units_primitive (polynomials F) A (λ d k. h d (divides_each (polynomials F) d A k)));
  }

  pub gauss : Gauss F
  unfolding polynomials
  gauss = record { product = product_primitive (polynomials F); divisor = primitive_divisor (polynomials F) }
