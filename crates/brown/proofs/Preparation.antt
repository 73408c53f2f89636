-- The theorem on preparing two polynomials, and what follows from the facts that are prepared.
use Rattle.std.proofs.Common.{◌≡◌, sym, refl, ap, ◌∙◌, subst, arith}
use Rattle.algebra.specs.Ring.{mul_comm, mul_one, one_mul}
use Rattle.algebra.specs.Divisors.{Divides, Greatest}
use Rattle.algebra.specs.Polynomial.{poly, poly_discrete}
use Rattle.algebra.specs.Change.{poly₂, number_one}
use Rattle.algebra.specs.Field.{Field, field_domain}
use Rattle.algebra.specs.Lead.{Monic}
use Rattle.algebra.proofs.Degrees.{lead_at, constant_is}
use Rattle.algebra.proofs.Monic.{field_forms, constant_monic, greatest_unique}
use Rattle.algebra.proofs.OneUnknown.{monics}
use Rattle.bivariate.specs.Primitive.{Primitive}
use Rattle.bivariate.specs.Degrees.{K[y], K[y][x], lift, deg_x, lead_x}
use Rattle.bivariate.specs.TwoUnknowns.{Reduced, CoprimeInX}
use Rattle.bivariate.proofs.Domain.{left_nonzero, right_nonzero, size_deg_x}
use Rattle.bivariate.proofs.Contents.{contents, primitive_nonzero, divisor_primitive}
use Rattle.bivariate.proofs.Gcds.{gcds, monic_gcd}
use Rattle.bivariate.proofs.Width.{degrees}
use Rattle.brown.specs.Prepared.{Prepared}
use Rattle.brown.specs.Theorems.{Same, Preparation}
use Rattle.brown.proofs.Sizes.{lead_nonzero, factor_monic}

module _ {E : Type 0} (F : Field E) where
  open F use {ring as K, discrete as eq, zero≢one}
  open poly K eq use {zero as 𝟘, one as 𝟙, mul as ◌⊙◌}
  open poly₂ K eq use {zero as 𝟎, one as 𝟏, mul as ◌⊠◌}

  infixl 70 ◌⊙◌
  infixl 70 ◌⊠◌
  prepare : (A B : K[y][x] F) → ¬ (A ≡ 𝟎) → ¬ (B ≡ 𝟎) → Prepared F A B
  prepare A B nA nB =
      let (a, A', s) = (contents F).content A nA in
      let (b, B', t) = (contents F).content B nB in
      let nA' = primitive_nonzero F A' s.primitive in
      let (c, m, g) = monic_gcd F (lead_x F A') (lead_x F B') (lead_nonzero (poly K eq) (poly_discrete K eq) A' nA') in
      let (G, Ā, B̄, r) = (gcds F).gcd A' B' nA' (primitive_nonzero F B' t.primitive) in
      record { content_A = a; A' = A'; of_A = s; content_B = b; B' = B'; of_B = t; γ = c; γ_monic = m; γ_greatest = g; G' = G; Ā' = Ā; B̄' = B̄; reduced = r }

  same : {A B : K[y][x] F} (p q : Prepared F A B) → Same F p q
  same p q =
      let (a, A) = (contents F).unique p.of_A q.of_A in
      let (b, B) = (contents F).unique p.of_B q.of_B in
      let r = subst (λ X. Reduced F X p.B' q.G' q.Ā' q.B̄') (sym A) (subst (λ X. Reduced F q.A' X q.G' q.Ā' q.B̄') (sym B) q.reduced) in
      let g = subst (λ X. Greatest (poly K eq) (lead_x F X) (lead_x F p.B') q.γ) (sym A) (subst (λ X. Greatest (poly K eq) (lead_x F q.A') (lead_x F X) q.γ) (sym B) q.γ_greatest) in
      let (G, Ā, B̄) = (gcds F).unique (primitive_nonzero F p.A' p.of_A.primitive) p.reduced r in
      record { content_A = a; A' = A; content_B = b; B' = B; γ = greatest_unique (monics F) p.γ_greatest g p.γ_monic q.γ_monic; G' = G; Ā' = Ā; B̄' = B̄ }

  module _ {A B : K[y][x] F} (p : Prepared F A B) where
    open p use {A', B', γ, G', Ā', B̄', reduced}

    pub A_nonzero : ¬ (A' ≡ 𝟎)
    A_nonzero = primitive_nonzero F A' p.of_A.primitive

    pub B_nonzero : ¬ (B' ≡ 𝟎)
    B_nonzero = primitive_nonzero F B' p.of_B.primitive

    pub γ_nonzero : ¬ (γ ≡ 𝟘)
    γ_nonzero = (monics F).nonzero γ p.γ_monic

    pub G_nonzero : ¬ (G' ≡ 𝟎)
    G_nonzero = left_nonzero (poly₂ K eq) reduced.left A_nonzero

    pub Ā_nonzero : ¬ (Ā' ≡ 𝟎)
    Ā_nonzero = right_nonzero (poly₂ K eq) reduced.left A_nonzero

    pub B̄_nonzero : ¬ (B̄' ≡ 𝟎)
    B̄_nonzero = right_nonzero (poly₂ K eq) reduced.right B_nonzero

    pub G_primitive : Primitive (poly K eq) G'
    G_primitive = ((gcds F).primitive p.of_A.primitive p.of_B.primitive reduced).0

    pub Ā_primitive : Primitive (poly K eq) Ā'
    Ā_primitive = divisor_primitive F Ā' A' p.of_A.primitive (G', reduced.left ∙ mul_comm (poly₂ K eq) _ _)

    pub B̄_primitive : Primitive (poly K eq) B̄'
    B̄_primitive = divisor_primitive F B̄' B' p.of_B.primitive (G', reduced.right ∙ mul_comm (poly₂ K eq) _ _)

    pub coprime : CoprimeInX F Ā' B̄'
    coprime = ((gcds F).primitive p.of_A.primitive p.of_B.primitive reduced).1

    -- γ is Δ times the leading coefficient of G'
    pub lead_monic : Monic K (lead_x F G')
    lead_monic = let (m, s, h) = reduced.monic in subst (Monic K) (sym (lead_at (poly K eq) (poly_discrete K eq) G' m s)) h

    lead_divides : Divides (poly K eq) (lead_x F G') γ
    lead_divides = p.γ_greatest.greatest (lead_x F G') (lead_x F Ā', ap (lead_x F) reduced.left ∙ (degrees F).leads G' Ā') (lead_x F B̄', ap (lead_x F) reduced.right ∙ (degrees F).leads G' B̄')

    pub Δ : K[y] F
    Δ = lead_divides.0

    pub γ_is : γ ≡ Δ ⊙ lead_x F G'
    unfolding Δ
    γ_is = lead_divides.1 ∙ mul_comm (poly K eq) _ _

    pub Δ_monic : Monic K Δ
    Δ_monic = factor_monic F γ Δ (lead_x F G') γ_is p.γ_monic lead_monic

    -- free of x, G' is its own content
    free_of_x : deg_x F G' ≡ 0 → G' ≡ 𝟏
    free_of_x z =
        let s = size_deg_x F G' G_nonzero in
        let is : G' ≡ lift F (G'.0 0) = constant_is (poly K eq) (poly_discrete K eq) G' (omega arith) in
        let m : Monic K (G'.0 0) = subst (Monic K) (lead_at (poly K eq) (poly_discrete K eq) G' 0 (omega arith)) lead_monic in
        let one : Monic K 𝟙 = subst (Monic K) (number_one K eq) (constant_monic K eq (field_domain F) zero≢one (field_forms F) K.one refl) in
        sym ((contents F).unique
        (record { monic = m; primitive = divisor_primitive F 𝟏 G' G_primitive (G', sym (one_mul (poly₂ K eq) G')); is = is ∙ sym (mul_one (poly₂ K eq) _) })
        (record { monic = one; primitive = G_primitive; is = sym (ap (λ X. X ⊠ G') (number_one (poly K eq) (poly_discrete K eq)) ∙ one_mul (poly₂ K eq) G') })).1

    whole : {c : K[y] F} → Monic K c → Greatest (poly K eq) p.content_A p.content_B c → (Ā : K[y][x] F) × (B̄ : K[y][x] F) × Reduced F A B (lift F c ⊠ G') Ā B̄
    whole m g =
        let (n, w) = (gcds F).contents p.of_A p.of_B m g reduced in
        (w.left.0, w.right.0, record { monic = n; greatest = w; left = w.left.1; right = w.right.1 })

  pub preparation : Preparation F
  preparation = record { prepared = prepare; unique = same; free_of_x = free_of_x; gcd = λ p. whole p }
