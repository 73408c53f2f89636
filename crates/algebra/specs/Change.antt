-- Maps of rings carried over to the coefficients of polynomials; constants, linear polynomials, and polynomials in two unknowns.
use Rattle.std.specs.Prelude.{◌≡◌, ℕ, zero, suc}
use Rattle.std.proofs.Common.{sym, ◌∙◌, ap, ap₂}
use Rattle.std.proofs.Math.Path.{fun_ext}
use mathlib.Core.HLevel.{Discrete}
use Rattle.algebra.specs.Ring.{Ring, ring}
use Rattle.algebra.specs.Series.{Series, series, tail, const, const_zero, const_one, const_add, const_mul, cons, cons_zero, tail_cons, at_zero, at_one, at_one_suc, at_add, at_mul, at_mul_suc, at_const}
use Rattle.algebra.specs.Bounded.{Below, below_const, below_cons, one_below}
use Rattle.algebra.specs.Value.{value, value_none, value_suc}
use Rattle.algebra.specs.Polynomial.{Poly, Hom, poly, poly_discrete, make, make_is, same, size, of_zero, of_one, of_add, of_mul, at, at_is, at_of, evaluate}

module _ {E G : Type 0} (R : Ring E) (S : Ring G) (h : Hom R S) where
  open h use {map, map_zero, map_one, map_add, map_mul}

  abbrev pub each : Series E → Series G
  each f k = map (f k)

  pub each_mul : (f g : Series E) (k : ℕ) → map ((series R).mul f g k) ≡ (series S).mul (each f) (each g) k
  each_mul f g zero = ap map (at_mul R f g) ∙ map_mul _ _ ∙ sym (at_mul S (each f) (each g))
  each_mul f g (suc k) = ap map (at_mul_suc R f g k) ∙ map_add _ _ ∙ ap₂ S.add (map_mul _ _) (each_mul (tail f) g k) ∙ sym (at_mul_suc S (each f) (each g) k)

  pub each_below : (n : ℕ) (f : Series E) → Below R n f → Below S n (each f)
  each_below n f b k le = ap map (b k le) ∙ map_zero

  pub each_value : (n : ℕ) (x : E) (f : Series E) → map (value R n x f) ≡ value S n (map x) (each f)
  each_value zero x f = ap map (value_none R x f) ∙ map_zero ∙ sym (value_none S _ _)
  each_value (suc n) x f = ap map (value_suc R n x f) ∙ map_add _ _ ∙ ap (S.add _) (map_mul _ _ ∙ ap (S.mul _) (each_value n x (tail f))) ∙ sym (value_suc S n (map x) (each f))

  module _ (eR : Discrete E) (eS : Discrete G) where
    pub carry : Poly R → Poly S
    carry p = make S eS (size R p) (each p.0) (each_below (size R p) p.0 p.1.1.0)

    pub of_carry : (p : Poly R) → (carry p).0 ≡ each p.0
    unfolding carry
    of_carry p = make_is S eS _ _ _

    unfoldable pub change : Hom (poly R eR) (poly S eS)
    change = record { map = carry; map_zero = same S eS z; map_one = same S eS o; map_add = λ p q. same S eS (a p q); map_mul = λ p q. same S eS (m p q) }
      where
        one_at : (k : ℕ) → map ((series R).one k) ≡ (series S).one k
        one_at zero = ap map (at_one R) ∙ map_one ∙ sym (at_one S)
        one_at (suc k) = ap map (at_one_suc R k) ∙ map_zero ∙ sym (at_one_suc S k)

        z : (carry (poly R eR).zero).0 ≡ (poly S eS).zero.0
        z = of_carry _ ∙ ap each (of_zero R eR) ∙ fun_ext (λ k. ap map (at_zero R k) ∙ map_zero ∙ sym (at_zero S k)) ∙ sym (of_zero S eS)

        o : (carry (poly R eR).one).0 ≡ (poly S eS).one.0
        o = of_carry _ ∙ ap each (of_one R eR) ∙ fun_ext one_at ∙ sym (of_one S eS)

        a : (p q : Poly R) → (carry ((poly R eR).add p q)).0 ≡ ((poly S eS).add (carry p) (carry q)).0
        a p q = of_carry _ ∙ ap each (of_add R eR p q) ∙ fun_ext (λ k. ap map (at_add R _ _ k) ∙ map_add _ _ ∙ sym (at_add S _ _ k)) ∙ sym (ap₂ (series S).add (of_carry p) (of_carry q)) ∙ sym (of_add S eS _ _)

        m : (p q : Poly R) → (carry ((poly R eR).mul p q)).0 ≡ ((poly S eS).mul (carry p) (carry q)).0
        m p q = of_carry _ ∙ ap each (of_mul R eR p q) ∙ fun_ext (each_mul p.0 q.0) ∙ sym (ap₂ (series S).mul (of_carry p) (of_carry q)) ∙ sym (of_mul S eS _ _)

    pub of_change : (p : Poly R) → (change.map p).0 ≡ each p.0
    unfolding change
    of_change p = of_carry p

    -- the map takes the value at x to the value at the image of x
    pub change_at : (x : E) (p : Poly R) → map (at R eR x p) ≡ at S eS (map x) (carry p)
    change_at x p = ap map (at_is R eR x p (size R p) p.1.1.0) ∙ each_value (size R p) x p.0 ∙ sym (at_of S eS (map x) (carry p) (each p.0) (size R p) (of_carry p) (each_below (size R p) p.0 p.1.1.0))

module _ {E : Type 0} (R : Ring E) (eq : Discrete E) where
  -- the constant polynomial c
  pub number : E → Poly R
  number c = make R eq 1 (const R c) (below_const R c)

  pub of_number : (c : E) → (number c).0 ≡ const R c
  unfolding number
  of_number c = make_is R eq _ _ _

  pub number_zero : number R.zero ≡ (poly R eq).zero
  number_zero = same R eq (of_number _ ∙ const_zero R ∙ sym (of_zero R eq))

  pub number_one : number R.one ≡ (poly R eq).one
  number_one = same R eq (of_number _ ∙ const_one R ∙ sym (of_one R eq))

  pub number_add : (a b : E) → number (R.add a b) ≡ (poly R eq).add (number a) (number b)
  number_add a b = same R eq (of_number _ ∙ const_add R a b ∙ sym (ap₂ (series R).add (of_number a) (of_number b)) ∙ sym (of_add R eq _ _))

  pub number_mul : (a b : E) → number (R.mul a b) ≡ (poly R eq).mul (number a) (number b)
  number_mul a b = same R eq (of_number _ ∙ const_mul R a b ∙ sym (ap₂ (series R).mul (of_number a) (of_number b)) ∙ sym (of_mul R eq _ _))

  pub constants : Hom R (poly R eq)
  constants = record { map = number; map_zero = number_zero; map_one = number_one; map_add = number_add; map_mul = number_mul }

  pub at_number : (x c : E) → at R eq x (number c) ≡ c
  at_number x c = at_of R eq x (number c) (const R c) 1 (of_number c) (below_const R c) ∙ rw (value_suc R 0 x (const R c), value_none R x (tail (const R c)), at_const R c) (simp ring)

  -- the polynomial x - a
  pub linear : E → Poly R
  linear a = make R eq 2 (cons (R.neg a) (series R).one) (below_cons R 1 _ _ (one_below R))

  pub of_linear : (a : E) → (linear a).0 ≡ cons (R.neg a) (series R).one
  unfolding linear
  of_linear a = make_is R eq _ _ _

  pub at_linear : (x a : E) → at R eq x (linear a) ≡ R.add x (R.neg a)
  at_linear x a =
      let 𝟏 = (series R).one in
      let f = cons (R.neg a) 𝟏 in
      at_of R eq x (linear a) f 2 (of_linear a) (below_cons R 1 (R.neg a) 𝟏 (one_below R)) ∙ rw (value_suc R 1 x f, cons_zero (R.neg a) 𝟏, tail_cons (R.neg a) 𝟏, value_suc R 0 x 𝟏, value_none R x (tail 𝟏), at_one R) (simp ring)

  -- polynomials in x whose coefficients are polynomials in y
  abbrev pub Poly₂ : Type 0
  Poly₂ = Poly (poly R eq)

  abbrev pub poly₂ : Ring Poly₂
  poly₂ = poly (poly R eq) (poly_discrete R eq)

  -- y is α: A(x, y) becomes A(x, α)
  unfoldable pub image : E → Hom poly₂ (poly R eq)
  image α = change (poly R eq) R (evaluate R eq α) (poly_discrete R eq) eq
