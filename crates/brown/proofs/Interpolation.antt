-- The theorem on interpolation: by Newton's form for one unknown, and so for each coefficient in two.
use Rattle.std.proofs.Common.{◌≡◌, ℕ, suc, ◌≤◌, max, List, [], ◌∷◌, length, sym, refl, ap, ◌∙◌, ap₂, ⊎_elim, arith}
use mathlib.Core.Path.{fun_ext}
use Rattle.algebra.specs.Ring.{ring_eq, sub_zero→eq, neg_unique, mul_zero, zero_mul, add_zero, add_neg, mul_assoc}
use Rattle.algebra.specs.Series.{Series}
use Rattle.algebra.specs.Bounded.{Below}
use Rattle.algebra.specs.Polynomial.{Poly, poly, poly_discrete, make, same, size, at}
use Rattle.algebra.specs.Change.{number, at_number, linear, at_linear}
use Rattle.algebra.specs.Field.{Field, field_domain, inv_mul}
use Rattle.algebra.specs.Lists.{All, Distinct}
use Rattle.brown.specs.Joined.{Pairwise}
use Rattle.algebra.proofs.Degrees.{size_of_zero}
use Rattle.algebra.proofs.Roots.{roots, linear_size}
use Rattle.algebra.proofs.OneUnknown.{evaluation}
use Rattle.bivariate.specs.Degrees.{K[y][x], Within}
use Rattle.brown.specs.Prepared.{at_y}
use Rattle.brown.specs.Theorems.{Interpolation}
use Rattle.brown.proofs.Lists.{all_map, pairwise_map, pairwise_every, pairwise_left, pairwise_self}
use Rattle.brown.proofs.Sizes.{sum_size, difference_size, product_size, number_small}
use Rattle.brown.proofs.Evaluation.{at_y_coef}

module _ {E : Type 0} (F : Field E) where
  open F use {ring as K, discrete as eq, inv}
  open K use {zero as 𝟘, one as 𝟙, add as ◌⊕◌, neg as ⊖◌, mul as ◌⊙◌}
  open poly K eq use {zero as 𝟎, one as 𝟏, add as ◌⊞◌, neg as ⊟◌, mul as ◌⊠◌}

  infixl 60 ◌⊕◌
  infixl 70 ◌⊙◌
  infix 80 ⊖◌
  infixl 60 ◌⊞◌
  infixl 70 ◌⊠◌
  infix 80 ⊟◌
  at_difference : (α : E) (q r : Poly K) → at K eq α (q ⊞ ⊟ r) ≡ at K eq α q ⊕ ⊖ at K eq α r
  at_difference α q r = (evaluation F).sum α q (⊟ r) ∙ ap (λ x. at K eq α q ⊕ x) (neg_unique K _ _ (sym ((evaluation F).sum α r (⊟ r)) ∙ ap (at K eq α) ((poly K eq).add_neg r) ∙ (evaluation F).zero α))

  -- a polynomial is determined by its values
  pub agree : (αs : List E) (q r : Poly K) → Distinct αs → size K q ≤ length αs → size K r ≤ length αs → All (λ α. at K eq α q ≡ at K eq α r) αs → q ≡ r
  agree αs q r d l m h = sub_zero→eq (poly K eq) q r (roots F αs (q ⊞ ⊟ r) d (all_map (λ α e. at_difference α q r ∙ ap (λ x. x ⊕ ⊖ at K eq α r) e ∙ add_neg K _) αs h) (difference_size K eq (length αs) q r l m))

  pub agree₂ : (αs : List E) (A B : K[y][x] F) → Distinct αs → Within F (length αs) A → Within F (length αs) B → All (λ α. at_y F α A ≡ at_y F α B) αs → A ≡ B
  agree₂ αs A B d l m h = same (poly K eq) (poly_discrete K eq) (fun_ext λ k. agree αs (A.0 k) (B.0 k) d (l k) (m k) (all_map (λ α e. sym (at_y_coef F α A k) ∙ ap (λ (q : Poly K). q.0 k) e ∙ at_y_coef F α B k) αs h))

  -- the polynomial with the roots αs
  node : List E → Poly K
  node [] = number K eq 𝟙
  node (α ∷ αs) = linear K eq α ⊠ node αs

  node_size : (αs : List E) → size K (node αs) ≤ suc (length αs)
  unfolding node
  node_size [] = number_small K eq 𝟙
  node_size (α ∷ αs) = let l = linear_size F α in product_size K eq 2 (suc (length αs)) (suc (suc (length αs))) (linear K eq α) (node αs) (omega arith) (node_size αs) (omega arith)

  node_zero : (αs : List E) → All (λ α. at K eq α (node αs) ≡ 𝟘) αs
  unfolding node
  node_zero [] = tt
  node_zero (α ∷ αs) = (
    (evaluation F).product α (linear K eq α) (node αs) ∙ ap (λ x. x ⊙ at K eq α (node αs)) (at_linear K eq α α ∙ add_neg K α) ∙ zero_mul K _,
    all_map (λ β e. (evaluation F).product β (linear K eq α) (node αs) ∙ ap (λ x. at K eq β (linear K eq α) ⊙ x) e ∙ mul_zero K _) αs (node_zero αs),
  )

  node_nonzero : (β : E) (αs : List E) → All (λ α. ¬ (α ≡ β)) αs → ¬ (at K eq β (node αs) ≡ 𝟘)
  unfolding node
  node_nonzero β [] h e = F.zero≢one (sym e ∙ at_number K eq β 𝟙)
  node_nonzero β (α ∷ αs) h e = ⊎_elim (λ z. h.0 (sym (sub_zero→eq K β α (sym (at_linear K eq β α) ∙ z)))) (node_nonzero β αs h.1) ((field_domain F).cancel _ _ tt tt (sym ((evaluation F).product β (linear K eq α) (node αs)) ∙ e))

  -- a polynomial whose values are read from a list by f
  module _ {V : Type 0} (f : V → E) where
    record Through (αs : List E) (vs : List V) : Type 0 where
      curve : Poly K
      small : size K curve ≤ length αs
      meets : Pairwise (λ α v. at K eq α curve ≡ f v) αs vs

    grow : (α : E) (αs : List E) (v : V) (vs : List V) → Distinct (α ∷ αs) → Through αs vs → Through (α ∷ αs) (v ∷ vs)
    grow α αs v vs d t = record { curve = t.curve ⊞ number K eq c ⊠ node αs; small = small; meets = (split α ∙ here, there αs vs (node_zero αs) t.meets) }
      where
        w : E
        w = at K eq α (node αs)

        c : E
        c = (f v ⊕ ⊖ at K eq α t.curve) ⊙ inv w

        small : size K (t.curve ⊞ number K eq c ⊠ node αs) ≤ suc (length αs)
        small =
            let s = t.small in
            sum_size K eq (suc (length αs)) t.curve (number K eq c ⊠ node αs) (omega arith) (product_size K eq 1 (suc (length αs)) (suc (length αs)) (number K eq c) (node αs) (number_small K eq c) (node_size αs) (omega arith))

        split : (β : E) → at K eq β (t.curve ⊞ number K eq c ⊠ node αs) ≡ at K eq β t.curve ⊕ c ⊙ at K eq β (node αs)
        split β = (evaluation F).sum β _ _ ∙ ap (λ x. at K eq β t.curve ⊕ x) ((evaluation F).product β _ _ ∙ ap (λ x. x ⊙ at K eq β (node αs)) (at_number K eq β c))

        law : (s t : E) → s ⊕ (t ⊕ ⊖ s) ⊙ 𝟙 ≡ t
        law s t = simp ring_eq

        here : at K eq α t.curve ⊕ c ⊙ w ≡ f v
        here = ap (λ x. at K eq α t.curve ⊕ x) (mul_assoc K _ _ _ ∙ ap (λ x. (f v ⊕ ⊖ at K eq α t.curve) ⊙ x) (inv_mul F w (node_nonzero α αs d.0))) ∙ law _ _

        there : (βs : List E) (us : List V) → All (λ β. at K eq β (node αs) ≡ 𝟘) βs → Pairwise (λ β u. at K eq β t.curve ≡ f u) βs us → Pairwise (λ β u. at K eq β (t.curve ⊞ number K eq c ⊠ node αs) ≡ f u) βs us
        there [] [] z h = tt
        there [] (u ∷ us) z h = absurd h
        there (β ∷ βs) [] z h = absurd h
        there (β ∷ βs) (u ∷ us) z h = (split β ∙ ap₂ (λ x y. x ⊕ c ⊙ y) h.0 z.0 ∙ ap (λ x. f u ⊕ x) (mul_zero K c) ∙ add_zero K _, there βs us z.1 h.1)

    through : (αs : List E) (vs : List V) → Distinct αs → length αs ≡ length vs → Through αs vs
    through [] [] d e = record { curve = 𝟎; small = let z = size_of_zero K eq in omega arith; meets = tt }
    through [] (v ∷ vs) d e = absurd (omega arith)
    through (α ∷ αs) [] d e = absurd (omega arith)
    through (α ∷ αs) (v ∷ vs) d e = grow α αs v vs d (through αs vs d.1 (omega arith))

  -- for each coefficient of values that are polynomials in x, read from a list by f
  module _ {V : Type 0} (f : V → Poly K) where
    bound : (vs : List V) → (m : ℕ) × All (λ v. size K (f v) ≤ m) vs
    bound [] = (0, tt)
    bound (v ∷ vs) =
        let (m, h) = bound vs in
        (max (size K (f v)) m, (omega arith, all_map (λ u l. omega arith) vs h))

    through₂ : (αs : List E) (vs : List V) → Distinct αs → length αs ≡ length vs → (A : K[y][x] F) × Within F (length αs) A × Pairwise (λ α v. at_y F α A ≡ f v) αs vs
    unfolding make
    through₂ αs vs d e = (A, (λ k. (column k).small), pairwise_map (λ α v h. same K eq (fun_ext λ k. at_y_coef F α A k ∙ h k)) αs vs (pairwise_every (λ k α v. at K eq α (row k) ≡ (f v).0 k) αs vs (λ k. (column k).meets)))
      where
        column : (k : ℕ) → Through (λ v. (f v).0 k) αs vs
        column k = through (λ v. (f v).0 k) αs vs d e

        row : Series (Poly K)
        row k = (column k).curve

        below : Below (poly K eq) (bound vs).0 row
        below k l = roots F αs (row k) d (pairwise_left (λ α v h s. h ∙ (f v).1.1.0 k (omega arith)) αs vs (column k).meets (bound vs).1) (column k).small

        A : K[y][x] F
        A = make (poly K eq) (poly_discrete K eq) (bound vs).0 row below

  -- values that are given at every point
  pub join : (f : E → Poly K) (αs : List E) → Distinct αs → (A : K[y][x] F) × Within F (length αs) A × All (λ α. at_y F α A ≡ f α) αs
  join f αs d =
      let (A, w, h) = through₂ f αs αs d refl in
      (A, w, pairwise_self (λ α β. at_y F α A ≡ f β) αs h)

  pub interpolation : Interpolation F
  interpolation = record {
    polynomial = λ αs vs d e. let t = through (λ v. v) αs vs d e in (t.curve, t.small, t.meets);
    unique = agree;
    polynomial₂ = through₂ (λ v. v);
    unique₂ = agree₂;
  }
