-- What is found from lucky points is G', and what is collected from them is the greatest common divisor of A and B with its cofactors.
use Rattle.std.proofs.Common.{◌≡◌, ℕ, ◌⊎◌, List, sym, refl, ap, ◌∙◌, inl, inr}
use Rattle.std.proofs.lemmas.Bool.{cases_eq}
use Rattle.algebra.specs.Change.{poly₂}
use Rattle.algebra.specs.Field.{Field}
use Rattle.algebra.proofs.OneUnknown.{monics}
use Rattle.bivariate.specs.Degrees.{K[y][x], lift, deg_x}
use Rattle.bivariate.specs.TwoUnknowns.{Reduced}
use Rattle.bivariate.proofs.Contents.{contents}
use Rattle.bivariate.proofs.Gcds.{monic_gcd}
use Rattle.brown.specs.Prepared.{Prepared}
use Rattle.brown.specs.Joined.{Sample}
use Rattle.brown.proofs.Preparation.{preparation}
use Rattle.brown.proofs.Test.{test}
use Rattle.method.specs.Method.{Found, Collected}

module _ {E : Type 0} (F : Field E) {A B : K[y][x] F} (p : Prepared F A B) (held : List E) (sample : ¬ (deg_x F p.G' ≡ 0) → Sample F p (deg_x F p.G') held) where
  open F use {ring as K, discrete as eq}
  open poly₂ K eq use {mul as ◌⊠◌}
  open p use {G', content_A, content_B}

  infixl 70 ◌⊠◌
  abbrev d : ℕ
  d = deg_x F G'

  pub found : Found F p d held G'
  found = record {
    free_of_x = (preparation F).free_of_x p;
    joined = λ n. let (G*, A*, B*, j) = (test F).joined p (sample n) in let a = (test F).answer p (sample n) j in (G*, A*, B*, a.Δ, j, a.of_G);
  }

  pub only : (H : K[y][x] F) → Found F p d held H → H ≡ G'
  only H t = go (cases_eq d 0)
    where
      go : (d ≡ 0) ⊎ (¬ (d ≡ 0)) → H ≡ G'
      go (inl z) = t.free_of_x z ∙ sym ((preparation F).free_of_x p z)
      go (inr n) = let (G*, A*, B*, c, j, h) = t.joined n in ((contents F).unique h ((test F).answer p (sample n) j).of_G).1

  pub collects : (G : K[y][x] F) × (Ā : K[y][x] F) × (B̄ : K[y][x] F) × Collected F p d held G Ā B̄
  collects =
      let (c, m, g) = monic_gcd F content_A content_B ((monics F).nonzero content_A p.of_A.monic) in
      let (Ā, B̄, r) = (preparation F).gcd p m g in
      (lift F c ⊠ G', Ā, B̄, record { H = G'; found = found; c = c; c_monic = m; c_greatest = g; is = refl; left = r.left; right = r.right })

  pub answer : (G Ā B̄ : K[y][x] F) → Collected F p d held G Ā B̄ → Reduced F A B G Ā B̄
  answer G Ā B̄ t =
      let (A°, B°, r) = (preparation F).gcd p t.c_monic t.c_greatest in
      let e : G ≡ lift F t.c ⊠ G' = t.is ∙ ap (λ X. lift F t.c ⊠ X) (only t.H t.found) in
      record { monic = rw e r.monic; greatest = rw e r.greatest; left = t.left; right = t.right }
