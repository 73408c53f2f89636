-- The theorem on how few elements are not lucky, and the bounds for polynomials whose powers of x and of y are below 16.
use Rattle.std.proofs.Common.{◌≡◌, ℕ, suc, pred, ◌+◌, ◌*◌, ◌<◌, ◌≤◌, max, cond, eqb, ◌⊎◌, List, length, ap, ◌∙◌, inl, inr, mul-le-mul, arith}
use native.Mathlib.Decide.{dec_le}
use Rattle.std.proofs.lemmas.Bool.{cond_both, eqb-false}
use Rattle.algebra.specs.Ring.{mul_comm}
use Rattle.algebra.specs.Polynomial.{poly, poly_discrete, size, at}
use Rattle.algebra.specs.Change.{poly₂}
use Rattle.algebra.specs.Field.{Field, field_domain}
use Rattle.algebra.specs.Lists.{All, Distinct}
use Rattle.algebra.proofs.Roots.{roots}
use Rattle.bivariate.specs.Degrees.{K[y], K[y][x], lift, deg, deg_x, deg_y, lead_x, Within, width}
use Rattle.bivariate.specs.TwoUnknowns.{Content, Reduced}
use Rattle.bivariate.proofs.Domain.{left_nonzero, right_nonzero, divisor_size, domain_y, size_deg, size_deg_x, size_x_product}
use Rattle.bivariate.proofs.Gcds.{whole_nonzero}
use Rattle.bivariate.proofs.Width.{within_width, width_deg, width_least, width_mul}
use Rattle.brown.specs.Prepared.{Prepared, unlucky_bound, Lucky}
use Rattle.brown.specs.Theorems.{Table, Bound}
use Rattle.brown.proofs.Lists.{all_map, part}
use Rattle.brown.proofs.Sizes.{lead_nonzero}
use Rattle.brown.proofs.Evaluation.{primitive_at_y}
use Rattle.brown.proofs.Preparation.{A_nonzero, γ_nonzero, G_nonzero, Ā_nonzero, B̄_nonzero, Ā_primitive, coprime}
use Rattle.brown.proofs.Images.{shared, lucky_if}
use Rattle.brown.proofs.Unlucky.{Common, common_bound}

module _ {E : Type 0} (F : Field E) {A B : K[y][x] F} (p : Prepared F A B) where
  open F use {ring as K, discrete as eq}
  open poly K eq use {zero as 𝟘}
  open p use {γ, Ā', B̄'}

  -- an element that is not lucky is a root of γ, or the cofactors share a divisor there
  unlucky : (α : E) → ¬ Lucky F p α → (at K eq α γ ≡ K.zero) ⊎ Common F Ā' B̄' α
  unlucky α n = go (eq (at K eq α γ) K.zero)
    where
      large : (m : ℕ) → ¬ (pred m ≡ 0) → 2 ≤ m
      large m e = omega arith

      go : Dec (at K eq α γ ≡ K.zero) → (at K eq α γ ≡ K.zero) ⊎ Common F Ā' B̄' α
      go (yes z) = inl z
      go (no ok) = inr (record { divisor = (shared F p α).gcd; left = (shared F p α).greatest.left; right = (shared F p α).greatest.right; degree = large _ (λ z. n (lucky_if F p α ok z)) })

  roots_bound : (αs : List E) → Distinct αs → All (λ α. at K eq α γ ≡ K.zero) αs → length αs ≤ deg F γ
  roots_bound αs d z = go (dec_le (size K γ) (length αs))
    where
      go : Dec (size K γ ≤ length αs) → length αs ≤ deg F γ
      go (yes l) = absurd (γ_nonzero F p (roots F αs γ d z l))
      go (no l) = let s = size_deg F γ (γ_nonzero F p) in omega arith

  few_unlucky : (αs : List E) → Distinct αs → All (λ α. ¬ Lucky F p α) αs → length αs ≤ unlucky_bound F p
  few_unlucky αs d n =
      let t = part αs d (all_map unlucky αs n) in
      let e = t.lengths in
      let l = roots_bound t.left t.distinct.0 t.all_left in
      let r = common_bound F Ā' B̄' (deg_x F Ā') (deg_x F B̄') (deg_y F Ā') (deg_y F B̄') (size_deg_x F Ā' (Ā_nonzero F p)) (size_deg_x F B̄' (B̄_nonzero F p)) (within Ā' (Ā_nonzero F p)) (within B̄' (B̄_nonzero F p)) (coprime F p) (λ α. primitive_at_y F α Ā' (Ā_primitive F p)) t.right t.distinct.1 t.all_right in
      omega arith
    where
      within : (X : K[y][x] F) → ¬ (X ≡ (poly₂ K eq).zero) → Within F (suc (deg_y F X)) X
      within X m k = let w = within_width F X k in let d = width_deg F X m in omega arith

-- sizes of A', B', G' and the cofactors in x, then in y, and of γ
record SmallSizes (a b g ā b̄ ya yb yg yā yb̄ c : ℕ) : Type 0 where
  a_small : a ≤ 16
  b_small : b ≤ 16
  a_is : suc a ≡ g + ā
  b_is : suc b ≡ g + b̄
  g_some : 0 < g
  ya_small : ya ≤ 16
  yb_small : yb ≤ 16
  ya_is : suc ya ≡ yg + yā
  yb_is : suc yb ≡ yg + yb̄
  yg_some : 0 < yg
  c_small : c ≤ ya

closing_small : (a b g ā b̄ ya yb yg yā yb̄ c : ℕ) → SmallSizes a b g ā b̄ ya yb yg yā yb̄ c → pred c + max (pred ya) (pred yb) + 1 ≤ 31
closing_small a b g ā b̄ ya yb yg yā yb̄ c s = omega arith

-- where G' is not one, the cofactors have degrees in x of at most 14
bound_small : (a b g ā b̄ ya yb yg yā yb̄ c : ℕ) → SmallSizes a b g ā b̄ ya yb yg yā yb̄ c → pred c + (pred ā * pred yb̄ + pred b̄ * pred yā) + cond (eqb (pred g) 0) 1 (pred c + max (pred ya) (pred yb) + 1) ≤ 466
bound_small a b g ā b̄ ya yb yg yā yb̄ c s =
    cond_both (eqb (pred g) 0) _ _ (λ n. pred c + (pred ā * pred yb̄ + pred b̄ * pred yā) + n ≤ 466)
    (λ e. let r = product (pred ā) (pred yb̄) 15 15 (omega arith) (omega arith) in let t = product (pred b̄) (pred yā) 15 15 (omega arith) (omega arith) in omega arith)
    (λ e. let h = eqb-false (pred g) 0 e in let r = product (pred ā) (pred yb̄) 14 15 (omega arith) (omega arith) in let t = product (pred b̄) (pred yā) 14 15 (omega arith) (omega arith) in omega arith)
  where
    product : (m n x y : ℕ) → m ≤ x → n ≤ y → m * n ≤ x * y
    product m n x y l k = mul-le-mul l k

module _ {E : Type 0} (F : Field E) where
  open F use {ring as K, discrete as eq}
  open poly₂ K eq use {zero as 𝟎, mul as ◌⊠◌}

  infixl 70 ◌⊠◌
  -- a factor of a table is a table
  factor_table : (A G H : K[y][x] F) → A ≡ G ⊠ H → ¬ (A ≡ 𝟎) → Table F A → Table F G
  factor_table A G H e n t =
      let nH = right_nonzero (poly₂ K eq) e n in
      let s = width_mul F G H (left_nonzero (poly₂ K eq) e n) nH in
      let l = width_deg F H nH in
      let i = ap (width F) e in
      let w = width_least F A 16 t.in_y in
      let x = divisor_size (poly K eq) (poly_discrete K eq) (domain_y F) G A (H, e) n in
      let y = t.in_x in
      record { in_x = omega arith; in_y = λ k. let v = within_width F G k in omega arith }

  tables : {A B G Ā B̄ : K[y][x] F} → ¬ (A ≡ 𝟎) → ¬ (B ≡ 𝟎) → Reduced F A B G Ā B̄ → Table F A → Table F B → Table F G × Table F Ā × Table F B̄
  tables {A} {B} {G} {Ā} {B̄} nA nB r tA tB = (
    factor_table A G Ā r.left nA tA,
    factor_table A Ā G (r.left ∙ mul_comm (poly₂ K eq) G Ā) nA tA,
    factor_table B B̄ G (r.right ∙ mul_comm (poly₂ K eq) G B̄) nB tB,
  )

  part_table : {A : K[y][x] F} {c : K[y] F} {A' : K[y][x] F} → Content F A c A' → Table F A → Table F A'
  part_table {A} {c} {A'} s = factor_table A A' (lift F c) (s.is ∙ mul_comm (poly₂ K eq) (lift F c) A') (whole_nonzero F s)

  module _ {A B : K[y][x] F} (p : Prepared F A B) (tA : Table F A) (tB : Table F B) where
    open p use {A', B', γ, G', Ā', B̄', reduced}

    sizes : SmallSizes (size (poly K eq) A') (size (poly K eq) B') (size (poly K eq) G') (size (poly K eq) Ā') (size (poly K eq) B̄') (width F A') (width F B') (width F G') (width F Ā') (width F B̄') (size K γ)
    sizes = record {
      a_small = (part_table p.of_A tA).in_x;
      b_small = (part_table p.of_B tB).in_x;
      a_is = ap (λ X. suc (size (poly K eq) X)) reduced.left ∙ size_x_product F G' Ā' (G_nonzero F p) (Ā_nonzero F p);
      b_is = ap (λ X. suc (size (poly K eq) X)) reduced.right ∙ size_x_product F G' B̄' (G_nonzero F p) (B̄_nonzero F p);
      g_some = let s = size_deg_x F G' (G_nonzero F p) in omega arith;
      ya_small = width_least F A' 16 (part_table p.of_A tA).in_y;
      yb_small = width_least F B' 16 (part_table p.of_B tB).in_y;
      ya_is = ap (λ X. suc (width F X)) reduced.left ∙ width_mul F G' Ā' (G_nonzero F p) (Ā_nonzero F p);
      yb_is = ap (λ X. suc (width F X)) reduced.right ∙ width_mul F G' B̄' (G_nonzero F p) (B̄_nonzero F p);
      yg_some = let w = width_deg F G' (G_nonzero F p) in omega arith;
      c_small =
          let l = divisor_size K eq (field_domain F) γ (lead_x F A') p.γ_greatest.left (lead_nonzero (poly K eq) (poly_discrete K eq) A' (A_nonzero F p)) in
          let w = within_width F A' (deg_x F A') in
          omega arith;
    }

  pub bound : Bound F
  bound = record {
    unlucky = few_unlucky F;
    closing = λ p s t. closing_small _ _ _ _ _ _ _ _ _ _ _ (sizes p s t);
    enough = λ p s t. bound_small _ _ _ _ _ _ _ _ _ _ _ (sizes p s t);
    tables = tables;
  }
