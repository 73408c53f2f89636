-- The ring of polynomials over a ring with decidable equality: series with their least bound, so that polynomials with the same coefficients are equal, and equality is decidable again.
use Rattle.std.specs.Prelude.{◌≡◌, ℕ, zero, suc, ◌+◌, ◌≤◌}
use Rattle.std.proofs.Math.Path.{refl, sym}
use Rattle.std.proofs.Common.{◌∙◌, ap, ap₂, zero-le, arith}
use mathlib.Core.HLevel.{Discrete, hedberg, Σ_prop_path, ×_prop, Π_prop, ¬_prop, Unit-prop}
use Rattle.std.proofs.Math.Decide.{dec_le}
use Rattle.algebra.specs.Ring.{Ring, ring, sub_zero→eq, eq→sub_zero}
use Rattle.algebra.specs.Series.{Series, series, tail, at_zero, at_one}
use Rattle.algebra.specs.Bounded.{Below, below_zero, zero_below, below_more, below_add, below_neg, below_mul, below_less, one_below}
use Rattle.algebra.specs.Value.{value, value_none, value_suc, value_more, value_add, value_mul}

module _ {E : Type 0} (R : Ring E) where
  -- the last coefficient within the bound is not zero
  abbrev pub Tight : Series E → ℕ → Type 0
  Tight f zero = Unit {0}
  Tight f (suc n) = ¬ (f n ≡ R.zero)

  -- the least bound
  abbrev pub Trim : Series E → Type 0
  Trim f = (n : ℕ) × (Below R n f × Tight f n)

  -- a series with its least bound
  abbrev pub Poly : Type 0
  Poly = (f : Series E) × Trim f

  -- one more than the degree, and 0 of zero
  abbrev pub size : Poly → ℕ
  size p = p.1.0

  tight_prop : (f : Series E) (n : ℕ) → IsProp (Tight f n)
  tight_prop f zero = Unit-prop
  tight_prop f (suc n) = ¬_prop

  pub size_unique : (f : Series E) (n m : ℕ) → Below R n f → Tight f n → Below R m f → Tight f m → n ≡ m
  size_unique f zero zero b t b' t' = refl
  size_unique f zero (suc m) b t b' t' = absurd (t' (b m zero-le))
  size_unique f (suc n) zero b t b' t' = absurd (t (b' n zero-le))
  size_unique f (suc n) (suc m) b t b' t' = go (dec_le (suc n) m) (dec_le (suc m) n)
    where
      go : Dec (suc n ≤ m) → Dec (suc m ≤ n) → suc n ≡ suc m
      go (yes l) y = absurd (t' (b m l))
      go (no k) (yes l) = absurd (t (b' n l))
      go (no k) (no l) = omega arith

  pub size_least : (p : Poly) (n : ℕ) → Below R n p.0 → size p ≤ n
  size_least (f, (zero, t)) n h = zero-le
  size_least (f, (suc m, t)) n h = go (dec_le n m)
    where
      go : Dec (n ≤ m) → suc m ≤ n
      go (yes l) = absurd (t.1 (h m l))
      go (no l) = omega arith

-- a map that respects zero, one, sums and products
pub record Hom {E G : Type 0} (R : Ring E) (S : Ring G) : Type 0 where
  pub map : E → G
  pub map_zero : map R.zero ≡ S.zero
  pub map_one : map R.one ≡ S.one
  pub map_add : (a b : E) → map (R.add a b) ≡ S.add (map a) (map b)
  pub map_mul : (a b : E) → map (R.mul a b) ≡ S.mul (map a) (map b)

module _ {E : Type 0} (R : Ring E) (eq : Discrete E) where
  open series R use {zero as 𝟎, one as 𝟏, add as ◌⊞◌, neg as ⊟◌, mul as ◌⊠◌}

  infixl 60 ◌⊞◌
  infixl 70 ◌⊠◌
  infix 80 ⊟◌
  trim_prop : (f : Series E) → IsProp (Trim R f)
  trim_prop f (n, b) (m, c) = Σ_prop_path (λ k. ×_prop (Π_prop λ j. Π_prop λ le. hedberg eq _ _) (tight_prop R f k)) (size_unique R f n m b.0 b.1 c.0 c.1)

  pub trim : (n : ℕ) (f : Series E) → Below R n f → Trim R f
  trim zero f h = (0, (h, tt))
  trim (suc n) f h = go (trim n f) (eq (f n) R.zero)
    where
      go : (Below R n f → Trim R f) → Dec (f n ≡ R.zero) → Trim R f
      go ih (yes e) = ih (below_less R n f h e)
      go ih (no ne) = (suc n, (h, ne))

  -- polynomials with the same coefficients are equal
  pub same : {p q : Poly R} → p.0 ≡ q.0 → p ≡ q
  same = Σ_prop_path trim_prop

  -- the polynomial of a series with a bound
  unfoldable pub make : (n : ℕ) (f : Series E) → Below R n f → Poly R
  make n f h = (f, trim n f h)

  pub make_is : (n : ℕ) (f : Series E) (h : Below R n f) → (make n f h).0 ≡ f
  unfolding make
  make_is n f h = refl

  p_add : Poly R → Poly R → Poly R
  p_add (f, (m, (b, _))) (g, (n, (c, _))) = make (m + n) (f ⊞ g) (below_add R (m + n) f g (below_more R m (m + n) f (omega arith) b) (below_more R n (m + n) g (omega arith) c))

  p_neg : Poly R → Poly R
  p_neg (f, (m, (b, _))) = make m (⊟ f) (below_neg R m f b)

  p_mul : Poly R → Poly R → Poly R
  p_mul (f, (m, (b, _))) (g, (n, (c, _))) = make (m + n) (f ⊠ g) (below_mul R m n f g b c)

  unfoldable pub poly : Ring (Poly R)
  unfolding p_add p_neg p_mul make
  poly = record {
    zero = make 0 𝟎 (zero_below R 0);
    one = make 1 𝟏 (one_below R);
    add = p_add;
    neg = p_neg;
    mul = p_mul;
    add_assoc = λ p q r. same ((series R).add_assoc _ _ _);
    add_comm = λ p q. same ((series R).add_comm _ _);
    add_zero = λ p. same ((series R).add_zero _);
    add_neg = λ p. same ((series R).add_neg _);
    mul_assoc = λ p q r. same ((series R).mul_assoc _ _ _);
    mul_comm = λ p q. same ((series R).mul_comm _ _);
    mul_one = λ p. same ((series R).mul_one _);
    mul_add = λ p q r. same ((series R).mul_add _ _ _);
  }

  open poly use {zero as 𝟘, one as 𝟙, add as ◌⊕◌, neg as ⊖◌, mul as ◌⊙◌}

  infixl 60 ◌⊕◌
  infixl 70 ◌⊙◌
  infix 80 ⊖◌
  -- the series of each operation
  pub of_zero : 𝟘.0 ≡ 𝟎
  unfolding poly make
  of_zero = refl

  pub of_one : 𝟙.0 ≡ 𝟏
  unfolding poly make
  of_one = refl

  pub of_add : (p q : Poly R) → (p ⊕ q).0 ≡ p.0 ⊞ q.0
  unfolding poly p_add make
  of_add p q = refl

  pub of_neg : (p : Poly R) → (⊖ p).0 ≡ ⊟ p.0
  unfolding poly p_neg make
  of_neg p = refl

  pub of_mul : (p q : Poly R) → (p ⊙ q).0 ≡ p.0 ⊠ q.0
  unfolding poly p_mul make
  of_mul p q = refl

  -- equality is decided
  pub zero? : (p : Poly R) → Dec (p ≡ 𝟘)
  zero? (f, (zero, t)) = yes (same (below_zero R f t.0 ∙ sym of_zero))
  zero? (f, (suc n, t)) = no λ e. t.1 (ap (λ (q : Poly R). q.0 n) e ∙ ap (λ h. h n) of_zero ∙ at_zero R n)

  pub poly_discrete : Discrete (Poly R)
  poly_discrete p q = go (zero? (p ⊕ ⊖ q))
    where
      go : Dec (p ⊕ ⊖ q ≡ 𝟘) → Dec (p ≡ q)
      go (yes e) = yes (sub_zero→eq poly p q e)
      go (no n) = no λ e. n (eq→sub_zero poly p q e)

  -- the value at x
  unfoldable pub at : E → Poly R → E
  at x p = value R (size R p) x p.0

  pub at_is : (x : E) (p : Poly R) (n : ℕ) → Below R n p.0 → at x p ≡ value R n x p.0
  unfolding at
  at_is x p n h = sym (value_more R (size R p) x p.0 p.1.1.0 n (size_least R p n h))

  -- the value, from a series that is equal to the polynomial's and any bound of it
  pub at_of : (x : E) (p : Poly R) (f : Series E) (n : ℕ) → p.0 ≡ f → Below R n f → at x p ≡ value R n x f
  at_of x p f n e h = at_is x p n (rw e h) ∙ ap (value R n x) e

  -- evaluation at x respects sums and products
  unfoldable pub evaluate : E → Hom poly R
  evaluate x = record { map = at x; map_zero = z; map_one = o; map_add = a; map_mul = m }
    where
      z : at x 𝟘 ≡ R.zero
      z = at_of x 𝟘 𝟎 0 of_zero (zero_below R 0) ∙ value_none R x _

      o : at x 𝟙 ≡ R.one
      o = at_of x 𝟙 𝟏 1 of_one (one_below R) ∙ rw (value_suc R 0 x 𝟏, value_none R x (tail 𝟏), at_one R) (simp ring)

      a : (p q : Poly R) → at x (p ⊕ q) ≡ R.add (at x p) (at x q)
      a p q =
          let n = size R p + size R q in
          let bp = below_more R (size R p) n p.0 (omega arith) p.1.1.0 in
          let bq = below_more R (size R q) n q.0 (omega arith) q.1.1.0 in
          at_of x (p ⊕ q) (p.0 ⊞ q.0) n (of_add p q) (below_add R n p.0 q.0 bp bq) ∙ value_add R n x p.0 q.0 ∙ sym (ap₂ R.add (at_is x p n bp) (at_is x q n bq))

      m : (p q : Poly R) → at x (p ⊙ q) ≡ R.mul (at x p) (at x q)
      m p q =
          let k = size R p + size R q in
          at_of x (p ⊙ q) (p.0 ⊠ q.0) k (of_mul p q) (below_mul R (size R p) (size R q) p.0 q.0 p.1.1.0 q.1.1.0)
          ∙ value_mul R (size R p) (size R q) x p.0 q.0 p.1.1.0 q.1.1.0 k (omega arith)
          ∙ sym (ap₂ R.mul (at_is x p (size R p) p.1.1.0) (at_is x q (size R q) q.1.1.0))
