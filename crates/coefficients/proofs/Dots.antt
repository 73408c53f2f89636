-- Sums of products, gathered from the front.
use Rattle.std.proofs.Common.{◌≡◌, ℕ, true, ◌⊎◌, List, [], ◌∷◌, fold, refl, sym, ap, ◌∙◌, inl, inr}
use Rattle.std.specs.List.{zip}
use Rattle.coefficients.specs.Arithmetic.{Arithmetic, Laws}
use Rattle.coefficients.specs.Dot.{dot_of}

-- one product more
abbrev pub one_more : Arithmetic → ℕ → ℕ × ℕ → ℕ
one_more K total p = K.sum (K.product p.0 p.1) total

module _ (K : Arithmetic) (laws : Laws K) where
  dot_in : (xs ys : List ℕ) → K.element (dot_of K xs ys) ≡ true
  unfolding dot_of
  dot_in [] ys = laws.zero_in
  dot_in (x ∷ xs) [] = laws.zero_in
  dot_in (x ∷ xs) (y ∷ ys) = laws.sum_in _ _

  pub dot_start : (xs ys : List ℕ) → K.sum K.zero (dot_of K xs ys) ≡ dot_of K xs ys
  dot_start xs ys = laws.sum_zero _ (dot_in xs ys)

  module _ (total : ℕ) (inside : K.element total ≡ true) where
    pub dot_more : (x y : ℕ) (xs ys : List ℕ) → K.sum total (dot_of K (x ∷ xs) (y ∷ ys)) ≡ K.sum (one_more K total (x, y)) (dot_of K xs ys)
    unfolding dot_of
    dot_more x y xs ys =
        sym (laws.sum_assoc total (K.product x y) (dot_of K xs ys) inside (laws.product_in x y) (dot_in xs ys))
        ∙ ap (λ n. K.sum n (dot_of K xs ys)) (laws.sum_comm total (K.product x y))

    at_zero : K.sum total K.zero ≡ total
    at_zero = laws.sum_comm total K.zero ∙ laws.sum_zero total inside

    -- past the end of one of the two
    pub dot_none : (xs ys : List ℕ) → (xs ≡ []) ⊎ (ys ≡ []) → K.sum total (dot_of K xs ys) ≡ total
    unfolding dot_of
    dot_none [] ys e = at_zero
    dot_none (x ∷ xs) [] e = at_zero
    dot_none (x ∷ xs) (y ∷ ys) (inl e) = cc
    dot_none (x ∷ xs) (y ∷ ys) (inr e) = cc

  dot_from : (xs ys : List ℕ) (total : ℕ) → K.element total ≡ true → fold (one_more K) total (zip xs ys) ≡ K.sum total (dot_of K xs ys)
  dot_from [] ys total inside = sym (dot_none total inside [] ys (inl refl))
  dot_from (x ∷ xs) [] total inside = sym (dot_none total inside (x ∷ xs) [] (inr refl))
  dot_from (x ∷ xs) (y ∷ ys) total inside =
      dot_from xs ys (one_more K total (x, y)) (laws.sum_in _ _) ∙ sym (dot_more total inside x y xs ys)

  pub dot_by_fold : (xs ys : List ℕ) → fold (one_more K) K.zero (zip xs ys) ≡ dot_of K xs ys
  dot_by_fold xs ys = dot_from xs ys K.zero laws.zero_in ∙ dot_start xs ys
