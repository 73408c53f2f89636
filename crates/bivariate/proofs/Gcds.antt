-- The theorem on greatest common divisors of polynomials in x and y: first of primitive ones, then with the contents.
use Rattle.std.proofs.Common.{◌≡◌, [], ◌∷◌, sym, ap, ◌∙◌, ap₂}
use Rattle.algebra.specs.Ring.{Ring, combine, mul_comm}
use Rattle.algebra.specs.Solver.{by_ring, quoting}
use Rattle.algebra.specs.Divisors.{Divides, Invertible, Greatest}
use Rattle.algebra.specs.Polynomial.{poly, poly_discrete}
use Rattle.algebra.specs.Change.{poly₂}
use Rattle.algebra.specs.Field.{Field}
use Rattle.algebra.specs.Lead.{Monic}
use Rattle.algebra.proofs.Divisors.{divides_add, divides_eq, divides_mul, divides_mul_left, divides_trans, divides_both, times_unit, greatest_times_unit, mul_nonzero}
use Rattle.algebra.proofs.Euclid.{combination}
use Rattle.algebra.proofs.Degrees.{number_divides}
use Rattle.algebra.proofs.Monic.{greatest_unique, constant_monic}
use Rattle.algebra.proofs.OneUnknown.{monics}
use Rattle.bivariate.specs.Primitive.{Primitive}
use Rattle.bivariate.specs.Degrees.{K[y], K[y][x], lift, Monic₂}
use Rattle.bivariate.specs.TwoUnknowns.{Content, Reduced, CoprimeInX, Gcds}
use Rattle.bivariate.proofs.Pseudo.{CommonDivisor, common_divisor}
use Rattle.bivariate.proofs.Domain.{left_nonzero, domain_y, domain_yx, zero≢one_y, monics_yx, cancel_yx}
use Rattle.bivariate.proofs.Contents.{contents, gauss, primitive_nonzero, divisor_primitive, primitive_content, monic_nonzero, lift_nonzero}

module _ {E : Type 0} (F : Field E) where
  open F use {ring as K, discrete as eq}
  open poly K eq use {mul as ◌⊙◌}

  abbrev S : Ring (K[y][x] F)
  S = poly₂ K eq

  open poly₂ K eq use {zero as 𝟎, one as 𝟏, add as ◌⊞◌, mul as ◌⊠◌}

  infixl 70 ◌⊙◌
  infixl 60 ◌⊞◌
  infixl 70 ◌⊠◌
  -- the monic primitive part G of a combination that divides multiples of A and B by polynomials in y
  module _ (A B : K[y][x] F) (pA : Primitive (poly K eq) A) (pB : Primitive (poly K eq) B) (t : CommonDivisor (poly K eq) (poly_discrete K eq) (domain_y F) (zero≢one_y F) A B) (c : K[y] F) (P : K[y][x] F) (k : Content F t.divisor c P) (v : K[y][x] F) (w : Invertible S v) (m : Monic₂ F (P ⊠ v)) where
    abbrev G : K[y][x] F
    G = P ⊠ v

    G_primitive : Primitive (poly K eq) G
    G_primitive = divisor_primitive F G P k.primitive (times_unit S P w).1

    G_divisor : Divides S G t.divisor
    G_divisor = divides_eq S (sym k.is) (divides_mul_left S (lift F c) (times_unit S P w).1)

    G_left : Divides S G A
    G_left = (gauss F).divisor G A t.c G_primitive t.c_nonzero (divides_eq S (sym t.left) (divides_mul S t.a G_divisor))

    G_right : Divides S G B
    G_right = (gauss F).divisor G B t.d G_primitive t.d_nonzero (divides_eq S (sym t.right) (divides_mul S t.b G_divisor))

    G_greatest : (X : K[y][x] F) → Divides S X A → Divides S X B → Divides S X G
    G_greatest X x_A x-B =
        let x_divisor = divides_eq S t.combined (divides_add S (divides_mul_left S t.u x_A) (divides_mul_left S t.v x-B)) in
        divides_mul S v ((gauss F).divisor X P c (divisor_primitive F X A pA x_A) (monic_nonzero F c k.monic) (divides_eq S k.is x_divisor))

    found : (G : K[y][x] F) × (Ā : K[y][x] F) × (B̄ : K[y][x] F) × Reduced F A B G Ā B̄ × CoprimeInX F Ā B̄
    found = (
      G,
      G_left.0,
      G_right.0,
      record { monic = m; greatest = record { left = G_left; right = G_right; greatest = G_greatest }; left = G_left.1; right = G_right.1 },
      record { S = v ⊠ t.u; T = v ⊠ t.v; δ = c; nonzero = monic_nonzero F c k.monic; combined = cancel_yx F (primitive_nonzero F G G_primitive) (law _ _ _ _ _ _ _ _ _ _ G_left.1 G_right.1 t.combined k.is) },
    )
      where
        law : (A B a b u v f d p w : K[y][x] F) → A ≡ p ⊠ w ⊠ a → B ≡ p ⊠ w ⊠ b → u ⊠ A ⊞ v ⊠ B ≡ f → f ≡ d ⊠ p → p ⊠ w ⊠ (w ⊠ u ⊠ a ⊞ w ⊠ v ⊠ b) ≡ p ⊠ w ⊠ d
        law A B a b u v f d p w e1 e2 e3 e4 = combine S (S.neg (w ⊠ u)) e1 (combine S (S.neg (w ⊠ v)) e2 (combine S w e3 (combine S w e4 (by_ring S (A ∷ B ∷ a ∷ b ∷ u ∷ v ∷ f ∷ d ∷ p ∷ w ∷ []) (search quoting depth 30) tt))))

  primitive_gcd : (A B : K[y][x] F) → Primitive (poly K eq) A → Primitive (poly K eq) B → (G : K[y][x] F) × (Ā : K[y][x] F) × (B̄ : K[y][x] F) × Reduced F A B G Ā B̄ × CoprimeInX F Ā B̄
  primitive_gcd A B pA pB =
      let t = common_divisor (poly K eq) (poly_discrete K eq) (domain_y F) (zero≢one_y F) A B (primitive_nonzero F A pA) in
      let (c, P, k) = (contents F).content t.divisor t.divisor_nonzero in
      let (v, w, m) = (monics_yx F).multiple P (primitive_nonzero F P k.primitive) in
      found A B pA pB t c P k v w m

  one_gcd : {A B G Ā B̄ H Ã B̃ : K[y][x] F} → ¬ (A ≡ 𝟎) → Reduced F A B G Ā B̄ → Reduced F A B H Ã B̃ → (G ≡ H) × (Ā ≡ Ã) × (B̄ ≡ B̃)
  one_gcd {Ã = Ã} {B̃ = B̃} n s t =
      let e = greatest_unique (monics_yx F) s.greatest t.greatest s.monic t.monic in
      let nG = left_nonzero S s.left n in
      (e, cancel_yx F nG (sym s.left ∙ t.left ∙ ap (λ X. X ⊠ Ã) (sym e)), cancel_yx F nG (sym s.right ∙ t.right ∙ ap (λ X. X ⊠ B̃) (sym e)))

  of_primitive : {A B G Ā B̄ : K[y][x] F} → Primitive (poly K eq) A → Primitive (poly K eq) B → Reduced F A B G Ā B̄ → Primitive (poly K eq) G × CoprimeInX F Ā B̄
  of_primitive {A} {B} {G} {Ā} {B̄} pA pB r =
      let (H, Ã, B̃, s, c) = primitive_gcd A B pA pB in
      let (i, e, f) = one_gcd (primitive_nonzero F A pA) r s in
      (divisor_primitive F G A pA (Ā, r.left), record { S = c.S; T = c.T; δ = c.δ; nonzero = c.nonzero; combined = ap₂ (λ X Y. c.S ⊠ X ⊞ c.T ⊠ Y) e f ∙ c.combined })

  pub whole_nonzero : {A : K[y][x] F} {c : K[y] F} {A' : K[y][x] F} → Content F A c A' → ¬ (A ≡ 𝟎)
  whole_nonzero {A} {c} {A'} t z = mul_nonzero S (domain_yx F) (lift_nonzero F c (monic_nonzero F c t.monic)) (primitive_nonzero F A' t.primitive) (sym t.is ∙ z)

  -- the content of a divisor divides the content, and its primitive part the primitive part
  content_divisor : {A A' X X' : K[y][x] F} {a x : K[y] F} → Content F A a A' → Content F X x X' → Divides S X A → Divides (poly K eq) x a × Divides S X' A'
  content_divisor {A} {A'} {X} {X'} {a} {x} s t h =
      let h' = divides_eq S s.is h in
      (primitive_content F x a A' s.primitive (divides_trans S (X', t.is) h'), (gauss F).divisor X' A' a t.primitive (monic_nonzero F a s.monic) (divides_trans S (lift F x, t.is ∙ mul_comm S _ _) h'))

  with_contents : {A B A' B' G' : K[y][x] F} {a b c : K[y] F} → Content F A a A' → Content F B b B' → Greatest (poly K eq) a b c → Greatest S A' B' G' → Greatest S A B (lift F c ⊠ G')
  with_contents {A} {B} {A'} {B'} {G'} {a} {b} {c} s t g h = record {
    left = divides_eq S (sym s.is) (divides_both S (number_divides (poly K eq) (poly_discrete K eq) g.left) h.left);
    right = divides_eq S (sym t.is) (divides_both S (number_divides (poly K eq) (poly_discrete K eq) g.right) h.right);
    greatest = greatest;
  }
    where
      greatest : (X : K[y][x] F) → Divides S X A → Divides S X B → Divides S X (lift F c ⊠ G')
      greatest X x_A x-B =
          let (x, X', k) = (contents F).content X (left_nonzero S x_A.1 (whole_nonzero s)) in
          let (x_a, X'_A') = content_divisor s k x_A in
          let (x_b, X'_B') = content_divisor t k x-B in
          let (q, e) = divides_both S (number_divides (poly K eq) (poly_discrete K eq) (g.greatest x x_a x_b)) (h.greatest X' X'_A' X'_B') in
          (q, e ∙ ap (λ Y. Y ⊠ q) (sym k.is))

  monic_with_content : (G' : K[y][x] F) (c : K[y] F) → Monic K c → Monic₂ F G' → Monic₂ F (lift F c ⊠ G')
  monic_with_content G' c m n = (monics_yx F).product (lift F c) G' (constant_monic (poly K eq) (poly_discrete K eq) (domain_y F) (zero≢one_y F) (monics F) c m) n

  -- a monic greatest common divisor of two polynomials in y, of which the first is not zero
  pub monic_gcd : (a b : K[y] F) → ¬ (a ≡ (poly K eq).zero) → (c : K[y] F) × Monic K c × Greatest (poly K eq) a b c
  monic_gcd a b n =
      let g = combination F a b in
      let (v, w, m) = (monics F).multiple g.gcd (left_nonzero (poly K eq) g.greatest.left.1 n) in
      (g.gcd ⊙ v, m, greatest_times_unit (poly K eq) w g.greatest)

  some_gcd : (A B : K[y][x] F) → ¬ (A ≡ 𝟎) → ¬ (B ≡ 𝟎) → (G : K[y][x] F) × (Ā : K[y][x] F) × (B̄ : K[y][x] F) × Reduced F A B G Ā B̄
  some_gcd A B nA nB =
      let (a, A', s) = (contents F).content A nA in
      let (b, B', t) = (contents F).content B nB in
      let (G', Ā', B̄', r, k) = primitive_gcd A' B' s.primitive t.primitive in
      let (c, m, g) = monic_gcd a b (monic_nonzero F a s.monic) in
      let w = with_contents s t g r.greatest in
      (lift F c ⊠ G', w.left.0, w.right.0, record { monic = monic_with_content G' c m r.monic; greatest = w; left = w.left.1; right = w.right.1 })

  pub gcds : Gcds F
  gcds = record { gcd = some_gcd; unique = one_gcd; primitive = of_primitive; contents = λ {G' = G'} {c = c} s t m g r. (monic_with_content G' c m r.monic, with_contents s t g r.greatest) }
