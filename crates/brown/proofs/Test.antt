-- The theorem on the test: the degrees in y add up exactly if the degree of the images is that of G', and then the joined polynomials are multiples of G' and its cofactors.
use Rattle.std.proofs.Common.{◌≡◌, ℕ, suc, ◌+◌, ◌≤◌, ◌↔◌, List, sym, refl, ap, ◌∙◌, arith}
use Rattle.algebra.specs.Ring.{mul_assoc, mul_comm}
use Rattle.algebra.specs.Divisors.{Divides}
use Rattle.algebra.specs.Polynomial.{poly, poly_discrete, size, at}
use Rattle.algebra.specs.Change.{poly₂, number, number_mul, image}
use Rattle.algebra.specs.Field.{Field, field_domain}
use Rattle.algebra.proofs.Divisors.{divides_trans}
use Rattle.algebra.proofs.Degrees.{size_product}
use Rattle.algebra.proofs.OneUnknown.{evaluation, monics}
use Rattle.bivariate.specs.Degrees.{K[y], K[y][x], lift, deg_x, lead_x, Within, width}
use Rattle.bivariate.proofs.Domain.{divisor_size, domain_y, cancel_y, size_deg, size_deg_x}
use Rattle.bivariate.proofs.Contents.{contents, gauss, lift_nonzero, part_size}
use Rattle.bivariate.proofs.Width.{within_width, width_deg, within_mul, width_mul, lift_within, lift_width}
use Rattle.brown.specs.Prepared.{at_y, Prepared, closing_number}
use Rattle.brown.specs.Joined.{Sample, Joined, Passes}
use Rattle.brown.specs.Theorems.{Answer, Test}
use Rattle.brown.proofs.Lists.{all_map}
use Rattle.brown.proofs.Sizes.{scaled}
use Rattle.brown.proofs.Evaluation.{at_y_lift, at_y_lead}
use Rattle.brown.proofs.Preparation.{A_nonzero, B_nonzero, γ_nonzero, G_nonzero, Ā_nonzero, B̄_nonzero, G_primitive, Ā_primitive, B̄_primitive, lead_monic, Δ, γ_is, Δ_monic}
use Rattle.brown.proofs.Images.{A_is, B_is, image_nonzero, lead_stays, G_size as image-size, least}
use Rattle.brown.proofs.Joining.{determined, joined, one_joined, γ_A_size, γ_B_size, Point, points, first, G_size, G*_nonzero, A*_nonzero, B*_nonzero}

module _ {E : Type 0} (F : Field E) {A B : K[y][x] F} (p : Prepared F A B) where
  open F use {ring as K, discrete as eq}
  open poly K eq use {zero as 𝟘, mul as ◌⊙◌}
  open poly₂ K eq use {zero as 𝟎, mul as ◌⊠◌}
  open p use {A', B', γ, G', Ā', B̄', reduced}

  infixl 70 ◌⊙◌
  infixl 70 ◌⊠◌
  -- the width of a multiple by a polynomial in y
  lift_mul_width : (c : K[y] F) (X : K[y][x] F) → ¬ (c ≡ 𝟘) → ¬ (X ≡ 𝟎) → suc (width F (lift F c ⊠ X)) ≡ size K c + width F X
  lift_mul_width c X nc nX =
      let s = width_mul F (lift F c) X (lift_nonzero F c nc) nX in
      let t = lift_width F c in
      omega arith

  lift_mul_within : (c : K[y] F) (X : K[y][x] F) (n : ℕ) → size K c + width F X ≤ suc n → Within F n (lift F c ⊠ X)
  lift_mul_within c X n = within_mul F (size K c) (width F X) n (lift F c) X (lift_within F c (size K c) (omega arith)) (within_width F X)

  lift_mul_at : (α : E) (c : K[y] F) (X : K[y][x] F) → at_y F α (lift F c ⊠ X) ≡ number K eq (at K eq α c) ⊙ at_y F α X
  lift_mul_at α c X = (image K eq α).map_mul (lift F c) X ∙ ap (λ q. q ⊙ at_y F α X) (at_y_lift F α c)

  -- no common divisor of γ A' and γ B' has a higher degree in x than G'
  no_higher : (H P Q : K[y][x] F) → ¬ (H ≡ 𝟎) → lift F γ ⊠ A' ≡ H ⊠ P → lift F γ ⊠ B' ≡ H ⊠ Q → size (poly K eq) H ≤ size (poly K eq) G'
  no_higher H P Q n e f =
      let (c, H', t) = (contents F).content H n in
      let part : Divides (poly₂ K eq) H' H = (lift F c, t.is ∙ mul_comm (poly₂ K eq) _ _) in
      let l = (gauss F).divisor H' A' γ t.primitive (γ_nonzero F p) (divides_trans (poly₂ K eq) part (P, e)) in
      let r = (gauss F).divisor H' B' γ t.primitive (γ_nonzero F p) (divides_trans (poly₂ K eq) part (Q, f)) in
      let s = divisor_size (poly K eq) (poly_discrete K eq) (domain_y F) H' G' (reduced.greatest.greatest H' l r) (G_nonzero F p) in
      let z = part_size F t in
      omega arith

  γ_size : suc (size K γ) ≡ size K (Δ F p) + size K (lead_x F G')
  γ_size = ap (λ q. suc (size K q)) (γ_is F p) ∙ size_product K eq (field_domain F) (Δ F p) (lead_x F G') ((monics F).nonzero _ (Δ_monic F p)) ((monics F).nonzero _ (lead_monic F p))

  module _ {k : ℕ} {αs : List E} (s : Sample F p k αs) (G* A* B* : K[y][x] F) (j : Joined F p αs G* A* B*) where
    abbrev n : ℕ
    n = closing_number F p

    -- a polynomial C, which stands for A' or B', and C*, joined from its images divided by the greatest common divisors
    module _ (C C* : K[y][x] F) (narrow : size K γ + width F C ≤ suc n) (values : (α : E) (t : Point F p s G* A* B* j α) → at_y F α C ≡ t.value.g ⊙ at_y F α C*) where
      -- if the degrees add up, γ C is the product
      product : size K γ + width F C ≡ width F G* + width F C* → lift F γ ⊠ C ≡ G* ⊠ C*
      product e =
          determined F p s (lift F γ ⊠ C) (G* ⊠ C*) (lift_mul_within γ C n narrow) (within_mul F (width F G*) (width F C*) n G* C* (within_width F G*) (within_width F C*) (omega arith))
          (all_map (λ α t. lift_mul_at α γ C ∙ ap (λ q. number K eq (at K eq α γ) ⊙ q) (values α t) ∙ sym (mul_assoc (poly K eq) _ _ _) ∙ sym ((image K eq α).map_mul G* C* ∙ ap (λ q. q ⊙ at_y F α C*) t.value.of_G)) αs (points F p s G* A* B* j))

    sound : size K γ + width F A' ≡ width F G* + width F A* → size K γ + width F B' ≡ width F G* + width F B* → k ≡ deg_x F G'
    sound e f =
        let above = no_higher G* A* B* (G*_nonzero F p s G* A* B* j) (product A' A* (γ_A_size F p s) (λ α t. t.value.of_A) e) (product B' B* (γ_B_size F p s) (λ α t. t.value.of_B) f) in
        let (α, t) = first F p s G* A* B* j in
        let below = least F p α t.stands t.value.g t.value.image in
        let i = t.sized in
        let l = size_deg F t.value.g (image_nonzero F p α t.value.g t.value.image) in
        let m = size_deg_x F G' (G_nonzero F p) in
        let d = G_size F p s G* A* B* j in
        omega arith

    module _ (lucky : k ≡ deg_x F G') where
      -- the image of G' is a multiple of the monic one
      G_at : (α : E) (t : Point F p s G* A* B* j α) → at_y F α G' ≡ number K eq (at K eq α (lead_x F G')) ⊙ t.value.g
      G_at α t =
          let i = image-size F p α t.stands in
          let l = t.sized in
          let m = size_deg_x F G' (G_nonzero F p) in
          scaled F (at_y F α G') t.value.g (t.value.image.greatest.greatest _ (_, A_is F p α) (_, B_is F p α)) (omega arith) t.value.image.monic
          ∙ ap (λ c. number K eq c ⊙ t.value.g) (at_y_lead F α G' (G_nonzero F p) (lead_stays F p α t.stands))

      G*_is : G* ≡ lift F (Δ F p) ⊠ G'
      G*_is =
          determined F p s G* (lift F (Δ F p) ⊠ G') j.G_within (lift_mul_within (Δ F p) G' n narrow)
          (all_map (λ α t. t.value.of_G ∙ ap (λ c. number K eq c ⊙ t.value.g) (ap (at K eq α) (γ_is F p) ∙ (evaluation F).product α (Δ F p) (lead_x F G')) ∙ ap (λ q. q ⊙ t.value.g) (number_mul K eq _ _) ∙ mul_assoc (poly K eq) _ _ _ ∙ sym (lift_mul_at α (Δ F p) G' ∙ ap (λ q. number K eq (at K eq α (Δ F p)) ⊙ q) (G_at α t))) αs (points F p s G* A* B* j))
        where
          narrow : size K (Δ F p) + width F G' ≤ suc n
          narrow =
              let e = ap (λ X. suc (width F X)) reduced.left ∙ width_mul F G' Ā' (G_nonzero F p) (Ā_nonzero F p) in
              let w = width_deg F Ā' (Ā_nonzero F p) in
              let l = γ_A_size F p s in
              let c = γ_size in
              let t = size_deg F (lead_x F G') ((monics F).nonzero _ (lead_monic F p)) in
              omega arith

      -- C is G' C̄, and C* is joined from its images divided by the greatest common divisors
      module _ (C C̄ C* : K[y][x] F) (nC̄ : ¬ (C̄ ≡ 𝟎)) (is : C ≡ G' ⊠ C̄) (small : size K γ + width F C ≤ suc n) (within : Within F n C*) (values : (α : E) (t : Point F p s G* A* B* j α) → at_y F α C ≡ t.value.g ⊙ at_y F α C*) where
        C_width : suc (width F C) ≡ width F G' + width F C̄
        C_width = ap (λ X. suc (width F X)) is ∙ width_mul F G' C̄ (G_nonzero F p) nC̄

        divided : (α : E) (t : Point F p s G* A* B* j α) → at_y F α C* ≡ number K eq (at K eq α (lead_x F G')) ⊙ at_y F α C̄
        divided α t = cancel_y F (image_nonzero F p α t.value.g t.value.image) (sym (values α t) ∙ ap (at_y F α) is ∙ (image K eq α).map_mul G' C̄ ∙ ap (λ q. q ⊙ at_y F α C̄) (G_at α t ∙ mul_comm (poly K eq) _ _) ∙ mul_assoc (poly K eq) _ _ _)

        C*_is : C* ≡ lift F (lead_x F G') ⊠ C̄
        C*_is =
            determined F p s C* (lift F (lead_x F G') ⊠ C̄) within (lift_mul_within (lead_x F G') C̄ n narrow)
            (all_map (λ α t. divided α t ∙ sym (lift_mul_at α (lead_x F G') C̄)) αs (points F p s G* A* B* j))
          where
            narrow : size K (lead_x F G') + width F C̄ ≤ suc n
            narrow =
                let e = C_width in
                let w = width_deg F G' (G_nonzero F p) in
                let c = γ_size in
                let t = size_deg F (Δ F p) ((monics F).nonzero _ (Δ_monic F p)) in
                omega arith

        adds : size K γ + width F C ≡ width F G* + width F C*
        adds =
            let a = lift_mul_width (Δ F p) G' ((monics F).nonzero _ (Δ_monic F p)) (G_nonzero F p) in
            let b = lift_mul_width (lead_x F G') C̄ ((monics F).nonzero _ (lead_monic F p)) nC̄ in
            let a* = ap (width F) G*_is in
            let b* = ap (width F) C*_is in
            let c = γ_size in
            let e = C_width in
            omega arith

      A_adds : size K γ + width F A' ≡ width F G* + width F A*
      A_adds = adds A' Ā' A* (Ā_nonzero F p) reduced.left (γ_A_size F p s) j.A_within (λ α t. t.value.of_A)

      B_adds : size K γ + width F B' ≡ width F G* + width F B*
      B_adds = adds B' B̄' B* (B̄_nonzero F p) reduced.right (γ_B_size F p s) j.B_within (λ α t. t.value.of_B)

      answer : Answer F p G* A* B*
      answer = record {
        Δ = Δ F p;
        leads = γ_is F p;
        of_G = record { monic = Δ_monic F p; primitive = G_primitive F p; is = G*_is };
        of_A = record { monic = lead_monic F p; primitive = Ā_primitive F p; is = C*_is A' Ā' A* (Ā_nonzero F p) reduced.left (γ_A_size F p s) j.A_within (λ α t. t.value.of_A) };
        of_B = record { monic = lead_monic F p; primitive = B̄_primitive F p; is = C*_is B' B̄' B* (B̄_nonzero F p) reduced.right (γ_B_size F p s) j.B_within (λ α t. t.value.of_B) };
      }

    -- in degrees
    passes : Passes F p G* A* B* ↔ (k ≡ deg_x F G')
    passes =
        let c = size_deg F γ (γ_nonzero F p) in
        let g = width_deg F G* (G*_nonzero F p s G* A* B* j) in
        let a = width_deg F A' (A_nonzero F p) in
        let b = width_deg F B' (B_nonzero F p) in
        let a* = width_deg F A* (A*_nonzero F p s G* A* B* j) in
        let b* = width_deg F B* (B*_nonzero F p s G* A* B* j) in (
          λ t. let l = t.left in let r = t.right in sound (omega arith) (omega arith),
          λ e. let l = A_adds e in let r = B_adds e in record { left = omega arith; right = omega arith },
        )

pub test : {E : Type 0} (F : Field E) → Test F
test F = record {
  joined = λ p s. joined F p s;
  unique = λ p s j l. one_joined F p s j l;
  passes = λ p s {G*} {A*} {B*} j. passes F p s G* A* B* j;
  answer = λ p s {G*} {A*} {B*} j. answer F p s G* A* B* j refl;
}
