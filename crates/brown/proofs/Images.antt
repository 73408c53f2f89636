-- The theorem on images: the greatest common divisor of the images at a point is the image of G' times what the images of the cofactors share.
use Rattle.std.proofs.Common.{◌≡◌, ℕ, pred, ◌+◌, ◌<◌, ◌≤◌, min, [], ◌∷◌, sym, ap, ◌∙◌, arith}
use Rattle.algebra.specs.Ring.{combine, mul_zero}
use Rattle.algebra.specs.Solver.{by_ring, quoting}
use Rattle.algebra.specs.Divisors.{Divides, Greatest, Combined}
use Rattle.algebra.specs.Polynomial.{Poly, poly, poly_discrete, size, at}
use Rattle.algebra.specs.Change.{image}
use Rattle.algebra.specs.Field.{Field, field_domain}
use Rattle.algebra.proofs.Divisors.{divides_eq, divides_self, divides_both, combined_greatest, mul_nonzero}
use Rattle.algebra.proofs.Euclid.{combination}
use Rattle.algebra.proofs.Degrees.{size_product}
use Rattle.algebra.proofs.Monic.{greatest_unique}
use Rattle.algebra.proofs.OneUnknown.{evaluation, monics}
use Rattle.bivariate.specs.Degrees.{K[y][x], deg, deg_x, lead_x}
use Rattle.bivariate.proofs.Domain.{left_nonzero, right_nonzero, divisor_size, domain_y, size_deg, size_deg_x}
use Rattle.bivariate.proofs.Gcds.{monic_gcd}
use Rattle.brown.specs.Prepared.{at_y, Prepared, ceiling, Lucky}
use Rattle.brown.specs.Joined.{Image}
use Rattle.brown.specs.Theorems.{Images}
use Rattle.brown.proofs.Evaluation.{at_y_size, at_y_size_stays, primitive_at_y}
use Rattle.brown.proofs.Preparation.{A_nonzero, B_nonzero, G_nonzero, Δ, γ_is}

module _ {E : Type 0} (F : Field E) {A B : K[y][x] F} (p : Prepared F A B) where
  open F use {ring as K, discrete as eq}
  open poly K eq use {zero as 𝟘, neg as ⊖◌, add as ◌⊕◌, mul as ◌⊙◌}
  open p use {A', B', γ, G', Ā', B̄', reduced}

  infixl 60 ◌⊕◌
  infixl 70 ◌⊙◌
  infix 80 ⊖◌
  no_larger : (g a b : ℕ) → g ≤ a → g ≤ b → pred g < 1 + min (pred a) (pred b)
  no_larger g a b l m = omega arith

  G_below_ceiling : deg_x F G' < ceiling F p
  G_below_ceiling = no_larger _ _ _ (divisor_size (poly K eq) (poly_discrete K eq) (domain_y F) G' A' reduced.greatest.left (A_nonzero F p)) (divisor_size (poly K eq) (poly_discrete K eq) (domain_y F) G' B' reduced.greatest.right (B_nonzero F p))

  module _ (α : E) where
    pub A_at : ¬ (at_y F α A' ≡ 𝟘)
    A_at = primitive_at_y F α A' p.of_A.primitive

    pub B_at : ¬ (at_y F α B' ≡ 𝟘)
    B_at = primitive_at_y F α B' p.of_B.primitive

    pub some_image : (g : Poly K) × Image F p α g
    some_image =
        let (g, m, t) = monic_gcd F (at_y F α A') (at_y F α B') A_at in
        (g, record { monic = m; greatest = t })

    pub one_image : (g h : Poly K) → Image F p α g → Image F p α h → g ≡ h
    one_image g h s t = greatest_unique (monics F) s.greatest t.greatest s.monic t.monic

    pub image_nonzero : (g : Poly K) → Image F p α g → ¬ (g ≡ 𝟘)
    image_nonzero g t = (monics F).nonzero g t.monic

    below_ceiling : (g : Poly K) → Image F p α g → deg F g < ceiling F p
    below_ceiling g t =
        let a = divisor_size K eq (field_domain F) g (at_y F α A') t.greatest.left A_at in
        let b = divisor_size K eq (field_domain F) g (at_y F α B') t.greatest.right B_at in
        let c = at_y_size F α A' in
        let d = at_y_size F α B' in
        no_larger (size K g) (size (poly K eq) A') (size (poly K eq) B') (omega arith) (omega arith)

    pub A_is : at_y F α A' ≡ at_y F α G' ⊙ at_y F α Ā'
    A_is = ap (at_y F α) reduced.left ∙ (image K eq α).map_mul G' Ā'

    pub B_is : at_y F α B' ≡ at_y F α G' ⊙ at_y F α B̄'
    B_is = ap (at_y F α) reduced.right ∙ (image K eq α).map_mul G' B̄'

    -- what the images of the cofactors share
    pub shared : Combined (poly K eq) (at_y F α Ā') (at_y F α B̄')
    shared = combination F (at_y F α Ā') (at_y F α B̄')

    shared_nonzero : ¬ (shared.gcd ≡ 𝟘)
    shared_nonzero = left_nonzero (poly K eq) shared.greatest.left.1 (right_nonzero (poly K eq) A_is A_at)

    product_greatest : Greatest (poly K eq) (at_y F α A') (at_y F α B') (at_y F α G' ⊙ shared.gcd)
    product_greatest = combined_greatest (poly K eq) (law _ _ _ _ _ _ _ _ shared.combined A_is B_is) (part shared.greatest.left A_is) (part shared.greatest.right B_is)
      where
        law : (g d u v a b A B : Poly K) → d ≡ u ⊙ a ⊕ v ⊙ b → A ≡ g ⊙ a → B ≡ g ⊙ b → g ⊙ d ≡ u ⊙ A ⊕ v ⊙ B
        law g d u v a b A B e h k = combine (poly K eq) g e (combine (poly K eq) (⊖ u) h (combine (poly K eq) (⊖ v) k (by_ring (poly K eq) (g ∷ d ∷ u ∷ v ∷ a ∷ b ∷ A ∷ B ∷ []) (search quoting depth 30) tt)))

        part : {a b : Poly K} → Divides (poly K eq) shared.gcd a → b ≡ at_y F α G' ⊙ a → Divides (poly K eq) (at_y F α G' ⊙ shared.gcd) b
        part h e = divides_eq (poly K eq) (sym e) (divides_both (poly K eq) (divides_self (poly K eq) (at_y F α G')) h)

    module _ (ok : ¬ (at K eq α γ ≡ K.zero)) where
      pub lead_stays : ¬ (at K eq α (lead_x F G') ≡ K.zero)
      lead_stays z = ok (ap (at K eq α) (γ_is F p) ∙ (evaluation F).product α (Δ F p) (lead_x F G') ∙ ap (K.mul _) z ∙ mul_zero K _)

      pub G_size : size K (at_y F α G') ≡ size (poly K eq) G'
      G_size = at_y_size_stays F α G' (G_nonzero F p) lead_stays

      -- the degree of the greatest common divisor
      degree_sum : (g : Poly K) → Image F p α g → deg F g ≡ deg_x F G' + deg F shared.gcd
      degree_sum g t =
          let nG = left_nonzero (poly K eq) A_is A_at in
          let nP = mul_nonzero (poly K eq) (domain_y F) nG shared_nonzero in
          let below = divisor_size K eq (field_domain F) g (at_y F α G' ⊙ shared.gcd) (product_greatest.greatest g t.greatest.left t.greatest.right) nP in
          let above = divisor_size K eq (field_domain F) (at_y F α G' ⊙ shared.gcd) g (t.greatest.greatest _ product_greatest.left product_greatest.right) (image_nonzero g t) in
          let s = size_product K eq (field_domain F) (at_y F α G') shared.gcd nG shared_nonzero in
          let i = G_size in
          let x = size_deg F g (image_nonzero g t) in
          let y = size_deg_x F G' (G_nonzero F p) in
          let z = size_deg F shared.gcd shared_nonzero in
          omega arith

      -- a point is lucky where nothing but constants is shared
      pub lucky_if : deg F shared.gcd ≡ 0 → Lucky F p α
      lucky_if z = record { stands = ok; apart = λ d l r. small d (divisor_size K eq (field_domain F) d shared.gcd (shared.greatest.greatest d l r) shared_nonzero) }
        where
          go : (m n : ℕ) → m ≤ n → pred n ≡ 0 → pred m ≡ 0
          go m n l e = omega arith

          small : (d : Poly K) → size K d ≤ size K shared.gcd → deg F d ≡ 0
          small d l = go (size K d) (size K shared.gcd) l z

      pub least : (g : Poly K) → Image F p α g → deg_x F G' ≤ deg F g
      least g t = let s = degree_sum g t in omega arith

      lucky_degree : Lucky F p α → (g : Poly K) → Image F p α g → deg F g ≡ deg_x F G'
      lucky_degree h g t =
          let s = degree_sum g t in
          let z = h.apart shared.gcd shared.greatest.left shared.greatest.right in
          omega arith

      degree_lucky : (g : Poly K) → Image F p α g → deg F g ≡ deg_x F G' → Lucky F p α
      degree_lucky g t e = let s = degree_sum g t in lucky_if (omega arith)

pub images : {E : Type 0} (F : Field E) → Images F
images F = record {
  A_nonzero = A_at F;
  B_nonzero = B_at F;
  image = some_image F;
  unique = one_image F;
  below_ceiling = below_ceiling F;
  least = least F;
  lucky = λ p α ok g t. (degree_lucky F p α ok g t, λ h. lucky_degree F p α ok h g t);
  G_below_ceiling = G_below_ceiling F;
}
