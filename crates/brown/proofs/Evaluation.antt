-- The image at y = α of a polynomial in x and y: its coefficients, its size, and that no image of a primitive polynomial is zero.
use Rattle.std.proofs.Common.{◌≡◌, ℕ, zero, suc, pred, ◌≤◌, List, [], ◌∷◌, sym, ap, ◌∙◌, ap₂, arith}
use mathlib.Core.Path.{fun_ext}
use Rattle.algebra.specs.Ring.{mul_zero, add_zero}
use Rattle.algebra.specs.Series.{Series, tail}
use Rattle.algebra.specs.Bounded.{Below}
use Rattle.algebra.specs.Polynomial.{Poly, poly, poly_discrete, same, size, size_least, at, evaluate}
use Rattle.algebra.specs.Change.{poly₂, number, image, of_change}
use Rattle.algebra.specs.Field.{Field}
use Rattle.algebra.proofs.Degrees.{leading, coef_zero, number_coef, number_below}
use Rattle.algebra.proofs.OneUnknown.{evaluation}
use Rattle.bivariate.specs.Primitive.{weighted, Primitive}
use Rattle.bivariate.specs.Degrees.{K[y], K[y][x], lift, lead_x}
use Rattle.brown.specs.Prepared.{at_y}
use Rattle.brown.proofs.Sizes.{size_is}

module _ {E : Type 0} (F : Field E) (α : E) where
  open F use {ring as K, discrete as eq}
  open poly K eq use {zero as 𝟘}
  open poly₂ K eq use {zero as 𝟎}

  pub at_y_coef : (A : K[y][x] F) (k : ℕ) → (at_y F α A).0 k ≡ at K eq α (A.0 k)
  unfolding image evaluate
  at_y_coef A k = ap (λ h. h k) (of_change (poly K eq) K (evaluate K eq α) (poly_discrete K eq) eq A)

  at_y_below : (n : ℕ) (A : K[y][x] F) → Below (poly K eq) n A.0 → Below K n (at_y F α A).0
  at_y_below n A b k l = at_y_coef A k ∙ ap (at K eq α) (b k l) ∙ (evaluation F).zero α

  -- the degree in x does not grow
  pub at_y_size : (A : K[y][x] F) → size K (at_y F α A) ≤ size (poly K eq) A
  at_y_size A = size_least K (at_y F α A) (size (poly K eq) A) (at_y_below (size (poly K eq) A) A A.1.1.0)

  pub at_y_lift : (c : K[y] F) → at_y F α (lift F c) ≡ number K eq (at K eq α c)
  at_y_lift c = same K eq (fun_ext (elim [ zero ↦ here | suc k ↦ there k ]))
    where
      here : (at_y F α (lift F c)).0 0 ≡ (number K eq (at K eq α c)).0 0
      here = at_y_coef (lift F c) 0 ∙ ap (at K eq α) (number_coef (poly K eq) (poly_discrete K eq) c) ∙ sym (number_coef K eq _)

      there : (k : ℕ) → (at_y F α (lift F c)).0 (suc k) ≡ (number K eq (at K eq α c)).0 (suc k)
      there k = at_y_coef (lift F c) (suc k) ∙ ap (at K eq α) (number_below (poly K eq) (poly_discrete K eq) c (suc k) (omega arith)) ∙ (evaluation F).zero α ∙ sym (number_below K eq _ (suc k) (omega arith))

  pub at_y_nonzero : (A : K[y][x] F) → ¬ (at_y F α A ≡ 𝟘) → ¬ (A ≡ 𝟎)
  at_y_nonzero A n e = n (ap (at_y F α) e ∙ (image K eq α).map_zero)

  -- where the leading coefficient is not zero, the degree in x stays
  module _ (A : K[y][x] F) (nA : ¬ (A ≡ 𝟎)) (n : ¬ (at K eq α (lead_x F A) ≡ K.zero)) where
    pub at_y_size_stays : size K (at_y F α A) ≡ size (poly K eq) A
    at_y_size_stays =
        let l = leading (poly K eq) (poly_discrete K eq) A nA in
        let s = l.is_size in
        let i : pred (size (poly K eq) A) ≡ l.deg = omega arith in
        size_is K eq (at_y F α A) l.deg (at_y_below (suc l.deg) A l.below) (λ z. n (ap (λ j. at K eq α (A.0 j)) i ∙ sym (at_y_coef A l.deg) ∙ z)) ∙ sym s

    pub at_y_lead : (at_y F α A).0 (pred (size K (at_y F α A))) ≡ at K eq α (lead_x F A)
    at_y_lead = ap (λ s. (at_y F α A).0 (pred s)) at_y_size_stays ∙ at_y_coef A _

  -- a weighted sum of what is zero at α is zero there
  weighted_at : (us : List (K[y] F)) (f : Series (K[y] F)) → ((k : ℕ) → at K eq α (f k) ≡ K.zero) → at K eq α (weighted (poly K eq) us f) ≡ K.zero
  unfolding weighted
  weighted_at [] f h = (evaluation F).zero α
  weighted_at (u ∷ us) f h = (evaluation F).sum α _ _ ∙ ap₂ K.add ((evaluation F).product α u (f 0) ∙ ap (K.mul _) (h 0) ∙ mul_zero K _) (weighted_at us (tail f) (λ k. h (suc k))) ∙ add_zero K _

  pub primitive_at_y : (A : K[y][x] F) → Primitive (poly K eq) A → ¬ (at_y F α A ≡ 𝟘)
  primitive_at_y A (us, e) z = F.zero≢one (sym (weighted_at us A.0 (λ k. sym (at_y_coef A k) ∙ ap (λ (q : Poly K). q.0 k) z ∙ coef_zero K eq k)) ∙ ap (at K eq α) e ∙ (evaluation F).one α)
