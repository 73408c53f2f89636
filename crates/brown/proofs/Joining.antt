-- Joining the images at a sample of points: it can be done in exactly one way, and what is joined has γ for its leading coefficient.
use Rattle.std.proofs.Common.{◌≡◌, ℕ, suc, ◌+◌, ◌≤◌, List, length, sym, ap, ◌∙◌, subst, arith}
use Rattle.algebra.specs.Ring.{mul_one, mul_zero}
use Rattle.algebra.specs.Bounded.{Below}
use Rattle.algebra.specs.Polynomial.{Poly, poly, poly_discrete, size, at}
use Rattle.algebra.specs.Change.{poly₂, number}
use Rattle.algebra.specs.Field.{Field}
use Rattle.algebra.specs.Lists.{All}
use Rattle.algebra.proofs.Degrees.{coef_scale, lead_at}
use Rattle.algebra.proofs.Roots.{roots}
use Rattle.bivariate.specs.Degrees.{K[y][x], deg, Within, width}
use Rattle.bivariate.proofs.Domain.{right_nonzero, cancel_y, size_deg}
use Rattle.bivariate.proofs.Width.{width_deg}
use Rattle.brown.specs.Prepared.{at_y, Prepared, closing_number}
use Rattle.brown.specs.Joined.{Fits, Sample, JoinedAt, Joined}
use Rattle.brown.proofs.Lists.{all_map, all_both, some}
use Rattle.brown.proofs.Sizes.{size_nonzero, size_is, monic_lead}
use Rattle.brown.proofs.Evaluation.{at_y_coef, at_y_nonzero}
use Rattle.brown.proofs.Interpolation.{agree, agree₂, join}
use Rattle.brown.proofs.Preparation.{A_nonzero, B_nonzero, γ_nonzero}
use Rattle.brown.proofs.Images.{A_at, B_at, some_image, one_image, image_nonzero}

module _ {E : Type 0} (F : Field E) {A B : K[y][x] F} (p : Prepared F A B) {k : ℕ} {αs : List E} (s : Sample F p k αs) where
  open F use {ring as K, discrete as eq}
  open poly K eq use {zero as 𝟘, mul as ◌⊙◌}
  open poly₂ K eq use {zero as 𝟎}
  open p use {A', B', γ}

  infixl 70 ◌⊙◌
  -- a polynomial with a degree in y below the closing number is determined by its images at the points
  pub determined : (X Y : K[y][x] F) → Within F (closing_number F p) X → Within F (closing_number F p) Y → All (λ α. at_y F α X ≡ at_y F α Y) αs → X ≡ Y
  determined X Y v w = agree₂ F αs X Y s.distinct (subst (λ n. Within F n X) (sym s.number) v) (subst (λ n. Within F n Y) (sym s.number) w)

  pub joined : (G* : K[y][x] F) × (A* : K[y][x] F) × (B* : K[y][x] F) × Joined F p αs G* A* B*
  joined =
      let (G*, v, g) = join F (λ α. number K eq (at K eq α γ) ⊙ (some_image F p α).0) αs s.distinct in
      let (A*, w, a) = join F (λ α. (some_image F p α).1.greatest.left.0) αs s.distinct in
      let (B*, x, b) = join F (λ α. (some_image F p α).1.greatest.right.0) αs s.distinct in (
        G*,
        A*,
        B*,
        record {
          G_within = subst (λ n. Within F n G*) s.number v;
          A_within = subst (λ n. Within F n A*) s.number w;
          B_within = subst (λ n. Within F n B*) s.number x;
          values = all_both (λ α e h. record { g = (some_image F p α).0; image = (some_image F p α).1; of_G = e; of_A = h.0; of_B = h.1 }) αs g (cofactors A* B* a b);
        },
      )
    where
      Divided : E → K[y][x] F → K[y][x] F → Type 0
      Divided α X X* = at_y F α X ≡ (some_image F p α).0 ⊙ at_y F α X*

      divided : (α : E) {x y z : Poly K} → x ≡ (some_image F p α).0 ⊙ y → z ≡ y → x ≡ (some_image F p α).0 ⊙ z
      divided α e h = e ∙ ap (λ q. (some_image F p α).0 ⊙ q) (sym h)

      cofactors : (A* B* : K[y][x] F) → All (λ α. at_y F α A* ≡ (some_image F p α).1.greatest.left.0) αs → All (λ α. at_y F α B* ≡ (some_image F p α).1.greatest.right.0) αs → All (λ α. Divided α A' A* × Divided α B' B*) αs
      cofactors A* B* = all_both (λ α e h. (divided α (some_image F p α).1.greatest.left.1 e, divided α (some_image F p α).1.greatest.right.1 h)) αs

  pub one_joined : {G* A* B* G° A° B° : K[y][x] F} → Joined F p αs G* A* B* → Joined F p αs G° A° B° → (G* ≡ G°) × (A* ≡ A°) × (B* ≡ B°)
  one_joined {G*} {A*} {B*} {G°} {A°} {B°} j l = (
    determined G* G° j.G_within l.G_within (all_both (λ α t u. t.of_G ∙ ap (λ g. number K eq (at K eq α γ) ⊙ g) (same α t u) ∙ sym u.of_G) αs j.values l.values),
    determined A* A° j.A_within l.A_within (all_both (λ α t u. divided α t u t.of_A u.of_A) αs j.values l.values),
    determined B* B° j.B_within l.B_within (all_both (λ α t u. divided α t u t.of_B u.of_B) αs j.values l.values),
  )
    where
      same : (α : E) (t : JoinedAt F p G* A* B* α) (u : JoinedAt F p G° A° B° α) → t.g ≡ u.g
      same α t u = one_image F p α t.g u.g t.image u.image

      divided : (α : E) (t : JoinedAt F p G* A* B* α) (u : JoinedAt F p G° A° B° α) {x y z : Poly K} → x ≡ t.g ⊙ y → x ≡ u.g ⊙ z → y ≡ z
      divided α t u {x} {y} {z} e h = cancel_y F (image_nonzero F p α t.g t.image) (sym e ∙ h ∙ ap (λ g. g ⊙ z) (sym (same α t u)))

  -- the closing number is large enough
  pub γ_A_size : size K γ + width F A' ≤ suc (closing_number F p)
  γ_A_size =
      let c = size_deg F γ (γ_nonzero F p) in
      let a = width_deg F A' (A_nonzero F p) in
      omega arith

  pub γ_B_size : size K γ + width F B' ≤ suc (closing_number F p)
  γ_B_size =
      let c = size_deg F γ (γ_nonzero F p) in
      let b = width_deg F B' (B_nonzero F p) in
      omega arith

  module _ (G* A* B* : K[y][x] F) (j : Joined F p αs G* A* B*) where
    -- what is known at a point
    pub record Point (α : E) : Type 0 where
      pub stands : ¬ (at K eq α γ ≡ K.zero)
      pub value : JoinedAt F p G* A* B* α
      pub sized : size K value.g ≡ suc k

    pub points : All Point αs
    points = all_both point αs s.fits j.values
      where
        point : (α : E) → Fits F p k α → JoinedAt F p G* A* B* α → Point α
        point α f t = record { stands = f.stands; value = t; sized = size_deg F t.g (image_nonzero F p α t.g t.image) ∙ ap suc (ap (deg F) (one_image F p α t.g f.g t.image f.image) ∙ f.degree) }

    pub first : (α : E) × Point α
    first = let e = s.number in some Point αs points (omega arith)

    G_coef : (α : E) (t : Point α) (i : ℕ) → at K eq α (G*.0 i) ≡ K.mul (at K eq α γ) (t.value.g.0 i)
    G_coef α t i = sym (at_y_coef F α G* i) ∙ ap (λ (q : Poly K). q.0 i) t.value.of_G ∙ coef_scale K eq _ t.value.g i

    G_coef_within : (i : ℕ) → size K (G*.0 i) ≤ length αs
    G_coef_within i = let e = s.number in let l = j.G_within i in omega arith

    G_below : Below (poly K eq) (suc k) G*.0
    G_below i l = roots F αs (G*.0 i) s.distinct (all_map (λ α t. G_coef α t i ∙ (let e = t.sized in ap (K.mul _) (t.value.g.1.1.0 i (omega arith))) ∙ mul_zero K _) αs points) (G_coef_within i)

    G_first : G*.0 k ≡ γ
    G_first = agree F αs (G*.0 k) γ s.distinct (G_coef_within k) γ_within (all_map (λ α t. G_coef α t k ∙ ap (K.mul _) (sym (lead_at K eq t.value.g k t.sized) ∙ monic_lead F t.value.g t.value.image.monic) ∙ mul_one K _) αs points)
      where
        γ_within : size K γ ≤ length αs
        γ_within =
            let e = s.number in
            let c = size_deg F γ (γ_nonzero F p) in
            omega arith

    pub G_size : size (poly K eq) G* ≡ suc k
    G_size = size_is (poly K eq) (poly_discrete K eq) G* k G_below (λ z. γ_nonzero F p (sym G_first ∙ z))

    pub G*_nonzero : ¬ (G* ≡ 𝟎)
    G*_nonzero = let e = G_size in size_nonzero (poly K eq) (poly_discrete K eq) G* (omega arith)

    pub A*_nonzero : ¬ (A* ≡ 𝟎)
    A*_nonzero = let (α, t) = first in at_y_nonzero F α A* (right_nonzero (poly K eq) t.value.of_A (A_at F p α))

    pub B*_nonzero : ¬ (B* ≡ 𝟎)
    B*_nonzero = let (α, t) = first in at_y_nonzero F α B* (right_nonzero (poly K eq) t.value.of_B (B_at F p α))
