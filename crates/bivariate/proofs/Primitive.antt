-- Primitive polynomials over a ring whose greatest common divisors are combinations: each polynomial is a weighted sum of its coefficients times a primitive one.
use Rattle.std.proofs.Common.{◌≡◌, ℕ, zero, suc, List, [], ◌∷◌, map, sym, refl, ap, ◌∙◌, ap₂}
use mathlib.Core.Path.{fun_ext}
use Rattle.algebra.specs.Ring.{Ring, ring, zero_mul, mul_zero, mul_one, mul_comm, one_mul}
use Rattle.algebra.specs.Divisors.{Divides, Invertible}
use Rattle.algebra.specs.Series.{Series, series, tail, const, cons, cons_zero, cons_suc, at_const_mul}
use Rattle.algebra.specs.Bounded.{Below, below_tail, below_zero, zero_below, below_cons, below_scale}
use Rattle.algebra.specs.Polynomial.{Poly, poly, make, make_is, same, size}
use Rattle.algebra.specs.Change.{number, number_zero, number_one}
use Rattle.algebra.proofs.Divisors.{BezoutDomain, cancel, divides_add, divides_mul_left, divides_zero, divides_trans}
use Rattle.algebra.proofs.Degrees.{number_divides, of_scale, coef_scale, size_scale}
use Rattle.bivariate.specs.Primitive.{weighted, Primitive}

module _ {E : Type 0} (R : Ring E) where
  open R use {add as ◌⊕◌, mul as ◌⊙◌}
  open series R use {mul as ◌⊠◌}

  infixl 60 ◌⊕◌
  infixl 70 ◌⊙◌
  infixl 70 ◌⊠◌
  weighted_scale : (c : E) (us : List E) (f : Series E) → weighted R us (const R c ⊠ f) ≡ c ⊙ weighted R us f
  unfolding weighted
  weighted_scale c [] f = sym (mul_zero R c)
  weighted_scale c (u ∷ us) f = ap₂ (λ x y. u ⊙ x ⊕ y) (at_const_mul R c f zero) (ap (weighted R us) tail_scale ∙ weighted_scale c us (tail f)) ∙ law _ _
    where
      tail_scale : tail (const R c ⊠ f) ≡ const R c ⊠ tail f
      tail_scale = fun_ext λ k. simp at_const_mul

      law : (x y : E) → u ⊙ (c ⊙ x) ⊕ c ⊙ y ≡ c ⊙ (u ⊙ x ⊕ y)
      law x y = simp ring

  weighted_times : (c : E) (us : List E) (f : Series E) → weighted R (map (λ u. c ⊙ u) us) f ≡ c ⊙ weighted R us f
  unfolding weighted
  weighted_times c [] f = sym (mul_zero R c)
  weighted_times c (u ∷ us) f = ap (λ y. c ⊙ u ⊙ f zero ⊕ y) (weighted_times c us (tail f)) ∙ law _ _
    where
      law : (x y : E) → c ⊙ u ⊙ x ⊕ c ⊙ y ≡ c ⊙ (u ⊙ x ⊕ y)
      law x y = simp ring

  divides_weighted : (d : E) (us : List E) (f : Series E) → ((k : ℕ) → Divides R d (f k)) → Divides R d (weighted R us f)
  unfolding weighted
  divides_weighted d [] f h = divides_zero R d
  divides_weighted d (u ∷ us) f h = divides_add R (divides_mul_left R u (h zero)) (divides_weighted d us (tail f) (λ k. h (suc k)))

module _ {E : Type 0} (B : BezoutDomain E) where
  open B use {ring as R, discrete as eq, domain, gcd, zero≢one}
  open R use {zero as 𝟘, one as 𝟙, add as ◌⊕◌, mul as ◌⊙◌}
  open poly R eq use {zero as 𝟎, mul as ◌⊠◌}

  infixl 60 ◌⊕◌
  infixl 70 ◌⊙◌
  infixl 70 ◌⊠◌
  -- a series with n coefficients is c, a weighted sum of them, times a series
  record SeriesSplit (n : ℕ) (f : Series E) : Type 0 where
    c : E
    us : List E
    h : Series E
    is : f ≡ (series R).mul (const R c) h
    below : Below R n h
    combined : weighted R us f ≡ c

  series_split : (n : ℕ) (f : Series E) → Below R n f → SeriesSplit n f
  unfolding weighted
  series_split zero f b = record { c = 𝟘; us = []; h = (series R).zero; is = below_zero R f b ∙ sym (mul_zero (series R) _); below = zero_below R 0; combined = refl }
  series_split (suc n) f b = go (series_split n (tail f) (below_tail R n f b))
    where
      go : SeriesSplit n (tail f) → SeriesSplit (suc n) f
      go t =
          let g = gcd (f zero) t.c in
          let (q, e) = g.greatest.left in
          let (r, e') = g.greatest.right in
          let law : (x : E) → g.gcd ⊙ r ⊙ x ≡ g.gcd ⊙ (r ⊙ x) = λ x. simp ring in
          record {
            c = g.gcd;
            us = g.u ∷ map (λ u. g.v ⊙ u) t.us;
            h = cons q ((series R).mul (const R r) t.h);
            is = fun_ext (elim [
              | zero ↦ e ∙ sym (at_const_mul R _ _ zero ∙ ap (λ x. g.gcd ⊙ x) (cons_zero _ _))
              | suc k ↦ ap (λ s. s k) t.is ∙ at_const_mul R _ _ k ∙ ap (λ x. x ⊙ t.h k) e' ∙ law _ ∙ sym (at_const_mul R _ _ (suc k) ∙ ap (λ x. g.gcd ⊙ x) (cons_suc _ _ k ∙ at_const_mul R _ _ k))
            ]);
            below = below_cons R n _ _ (below_scale R n r t.h t.below);
            combined = ap (λ y. g.u ⊙ f zero ⊕ y) (weighted_times R g.v t.us (tail f) ∙ ap (λ x. g.v ⊙ x) t.combined) ∙ sym g.combined;
          }

  -- a polynomial as a weighted sum of its coefficients, times a polynomial
  pub record Split (A : Poly R) : Type 0 where
    pub content : E
    pub part : Poly R
    pub weights : List E
    pub is : A ≡ number R eq content ⊠ part
    pub combined : weighted R weights A.0 ≡ content

  pub split : (A : Poly R) → Split A
  split A =
      let t = series_split (size R A) A.0 A.1.1.0 in
      let p = make R eq (size R A) t.h t.below in
      record {
        content = t.c;
        part = p;
        weights = t.us;
        is = same R eq (t.is ∙ sym (of_scale R eq t.c p ∙ ap ((series R).mul (const R t.c)) (make_is R eq _ _ _)));
        combined = t.combined;
      }

  weighted_number : (us : List E) (c : E) (p : Poly R) → weighted R us (number R eq c ⊠ p).0 ≡ c ⊙ weighted R us p.0
  weighted_number us c p = ap (weighted R us) (of_scale R eq c p) ∙ weighted_scale R c us p.0

  -- what divides all coefficients of a multiple of a primitive polynomial divides the factor
  pub primitive_divides : (d l : E) (H : Poly R) → Primitive R H → Divides (poly R eq) (number R eq d) (number R eq l ⊠ H) → Divides R d l
  primitive_divides d l H (us, e) (Q, f) = (weighted R us Q.0, sym (mul_one R l) ∙ ap (λ x. l ⊙ x) (sym e) ∙ sym (weighted_number us l H) ∙ ap (λ (p : Poly R). weighted R us p.0) f ∙ weighted_number us d Q)

  pub primitive_unit : (d : E) (H : Poly R) → Primitive R H → Divides (poly R eq) (number R eq d) H → Invertible R d
  primitive_unit d H p (Q, f) = primitive_divides d 𝟙 H p (Q, ap (λ x. x ⊠ H) (number_one R eq) ∙ one_mul (poly R eq) H ∙ f)

  pub primitive_nonzero : (H : Poly R) → Primitive R H → ¬ (H ≡ 𝟎)
  primitive_nonzero H p z =
      let (w, e) = primitive_unit 𝟘 H p (𝟎, z ∙ sym (mul_zero (poly R eq) _)) in
      zero≢one (sym (e ∙ zero_mul R w))

  pub only_units_primitive : (A : Poly R) → ((d : E) → Divides (poly R eq) (number R eq d) A → Invertible R d) → Primitive R A
  only_units_primitive A h =
      let t = split A in
      let (w, e) = h t.content (t.part, t.is) in
      (map (λ u. w ⊙ u) t.weights, weighted_times R w t.weights A.0 ∙ ap (λ x. w ⊙ x) t.combined ∙ mul_comm R _ _ ∙ sym e)

  -- a divisor of a primitive polynomial is primitive
  pub divisor_primitive : (X A : Poly R) → Primitive R A → Divides (poly R eq) X A → Primitive R X
  divisor_primitive X A p h = only_units_primitive X (λ d k. primitive_unit d A p (divides_trans (poly R eq) k h))

  -- to divide a polynomial is to divide each coefficient
  pub divides_each : (d : E) (A : Poly R) → Divides (poly R eq) (number R eq d) A → (k : ℕ) → Divides R d (A.0 k)
  divides_each d A (Q, e) k = (Q.0 k, ap (λ (p : Poly R). p.0 k) e ∙ coef_scale R eq d Q k)

  pub each_divides : (d : E) (A : Poly R) → ((k : ℕ) → Divides R d (A.0 k)) → Divides (poly R eq) (number R eq d) A
  each_divides d A h =
      let t = split A in
      let (q, e) = divides_weighted R d t.weights A.0 h in
      divides_trans (poly R eq) (number_divides R eq (q, sym t.combined ∙ e)) (t.part, t.is)

  -- of a polynomial that is not zero, the part is primitive and of the same size
  module _ (A : Poly R) (n : ¬ (A ≡ 𝟎)) (t : Split A) where
    pub content_nonzero : ¬ (t.content ≡ 𝟘)
    content_nonzero z = n (t.is ∙ ap (λ x. number R eq x ⊠ t.part) z ∙ ap (λ x. x ⊠ t.part) (number_zero R eq) ∙ zero_mul (poly R eq) _)

    pub part_primitive : Primitive R t.part
    part_primitive = (t.weights, cancel R domain content_nonzero (sym (weighted_number t.weights t.content t.part) ∙ ap (λ (p : Poly R). weighted R t.weights p.0) (sym t.is) ∙ t.combined ∙ sym (mul_one R _)))

    part_nonzero : ¬ (t.part ≡ 𝟎)
    part_nonzero = primitive_nonzero t.part part_primitive

    pub part_size : size R A ≡ size R t.part
    part_size = ap (size R) t.is ∙ size_scale R eq domain t.content t.part content_nonzero part_nonzero
