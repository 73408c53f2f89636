-- Division up to a constant factor, and by it a combination of two polynomials that divides constant multiples of both.
use Rattle.std.proofs.Common.{◌≡◌, ℕ, zero, suc, ◌+◌, ◌-◌, ◌<◌, ◌≤◌, [], ◌∷◌, sym, ap, ◌∙◌, arith}
use mathlib.Core.HLevel.{Discrete}
use native.Mathlib.Decide.{dec_le}
use Rattle.algebra.specs.Ring.{Ring, ring, combine, mul_comm}
use Rattle.algebra.specs.Solver.{by_ring, quoting}
use Rattle.algebra.specs.Bounded.{Below, Domain, Any}
use Rattle.algebra.specs.Polynomial.{Poly, poly, size, zero?}
use Rattle.algebra.specs.Change.{number, number_one, number_mul}
use Rattle.algebra.proofs.Divisors.{mul_nonzero}
use Rattle.algebra.proofs.Euclid.{size_zero}
use Rattle.algebra.proofs.Degrees.{number_below, Leading, leading, below_size, below_product, size_difference, term, term_below, term_top, coef_mul, coef_scale}

module _ {E : Type 0} (R : Ring E) (eq : Discrete E) (D : Domain R Any) (zero≢one : ¬ (R.zero ≡ R.one)) where
  open R use {zero as 𝟘, one as 𝟙, mul as ◌⊙◌}

  abbrev S : Ring (Poly R)
  S = poly R eq

  open poly R eq use {zero as 𝟎, one as 𝟏, add as ◌⊞◌, neg as ⊟◌, mul as ◌⊠◌}

  infixl 70 ◌⊙◌
  infixl 60 ◌⊞◌
  infixl 70 ◌⊠◌
  infix 80 ⊟◌
  one≢zero : ¬ (𝟙 ≡ 𝟘)
  one≢zero e = zero≢one (sym e)

  -- a constant multiple of A is a multiple of B and a remainder that is smaller than B
  record PseudoQuotient (A B : Poly R) : Type 0 where
    factor : E
    factor_nonzero : ¬ (factor ≡ 𝟘)
    quo : Poly R
    rem : Poly R
    is : number R eq factor ⊠ A ≡ quo ⊠ B ⊞ rem
    less : size R rem < size R B

  short : (A B : Poly R) → size R A < size R B → PseudoQuotient A B
  short A B le = record { factor = 𝟙; factor_nonzero = one≢zero; quo = 𝟎; rem = A; is = ap (λ x. x ⊠ A) (number_one R eq) ∙ simp ring; less = le }

  -- A times the leading coefficient of B, without its term of degree n
  module _ (A B : Poly R) (l : Leading R eq B) (n : ℕ) (b : Below R (suc n) A.0) (le : l.deg ≤ n) where
    lower : Poly R
    lower = number R eq (B.0 l.deg) ⊠ A ⊞ ⊟ (term R eq (A.0 n) (n - l.deg) ⊠ B)

    lower_size : size R lower ≤ n
    unfolding lower
    lower_size =
        let k = l.deg in
        let t = term R eq (A.0 n) (n - k) in
        let tb = term_below R eq (A.0 n) (n - k) in
        let at : n ≡ (n - k) + k = omega arith in
        let top : (t ⊠ B).0 n ≡ A.0 n ⊙ B.0 k = ap (t ⊠ B).0 at ∙ coef_mul R eq (n - k) k t B tb l.below ∙ ap (λ x. x ⊙ B.0 k) (term_top R eq (A.0 n) (n - k)) in
        size_difference R eq n (number R eq (B.0 k) ⊠ A) (t ⊠ B) (below_product R eq 1 (suc n) (suc n) (number R eq (B.0 k)) A (number_below R eq _) b (omega arith)) (below_product R eq (suc (n - k)) (suc k) (suc n) t B tb l.below (omega arith)) (coef_scale R eq (B.0 k) A n ∙ mul_comm R _ _ ∙ sym top)

    raise : PseudoQuotient lower B → PseudoQuotient A B
    unfolding lower
    raise t = record {
      factor = t.factor ⊙ B.0 l.deg;
      factor_nonzero = mul_nonzero R D t.factor_nonzero l.nonzero;
      quo = t.quo ⊞ number R eq t.factor ⊠ T;
      rem = t.rem;
      is = ap (λ x. x ⊠ A) (number_mul R eq _ _) ∙ law _ _ _ _ _ _ _ t.is;
      less = t.less;
    }
      where
        T : Poly R
        T = term R eq (A.0 n) (n - l.deg)

        law : (f c A T B q r : Poly R) → f ⊠ (c ⊠ A ⊞ ⊟ (T ⊠ B)) ≡ q ⊠ B ⊞ r → f ⊠ c ⊠ A ≡ (q ⊞ f ⊠ T) ⊠ B ⊞ r
        law f c A T B q r e = combine S 𝟏 e (by_ring S (f ∷ c ∷ A ∷ T ∷ B ∷ q ∷ r ∷ []) (search quoting depth 30) tt)

  pseudo_below : (n : ℕ) (A B : Poly R) → Leading R eq B → size R A ≤ n → PseudoQuotient A B
  pseudo_below zero A B l le = short A B (omega arith)
  pseudo_below (suc n) A B l le = go (pseudo_below n) (dec_le l.deg n)
    where
      go : ((A B : Poly R) → Leading R eq B → size R A ≤ n → PseudoQuotient A B) → Dec (l.deg ≤ n) → PseudoQuotient A B
      go ih (no k) = short A B (omega arith)
      go ih (yes k) = let b = below_size R eq A (suc n) le in raise A B l n b k (ih (lower A B l n b k) B l (lower_size A B l n b k))

  pseudo_divide : (A B : Poly R) → ¬ (B ≡ 𝟎) → PseudoQuotient A B
  pseudo_divide A B n = pseudo_below (size R A) A B (leading R eq B n) (omega arith)

  -- a combination of A and B that divides a constant multiple of each
  pub record CommonDivisor (A B : Poly R) : Type 0 where
    pub divisor : Poly R
    pub divisor_nonzero : ¬ (divisor ≡ 𝟎)
    pub u : Poly R
    pub v : Poly R
    pub combined : u ⊠ A ⊞ v ⊠ B ≡ divisor
    pub c : E
    pub c_nonzero : ¬ (c ≡ 𝟘)
    pub a : Poly R
    pub left : number R eq c ⊠ A ≡ divisor ⊠ a
    pub d : E
    pub d_nonzero : ¬ (d ≡ 𝟘)
    pub b : Poly R
    pub right : number R eq d ⊠ B ≡ divisor ⊠ b

  alone : (A B : Poly R) → B ≡ 𝟎 → ¬ (A ≡ 𝟎) → CommonDivisor A B
  alone A B z n = record {
    divisor = A;
    divisor_nonzero = n;
    u = 𝟏;
    v = 𝟎;
    combined = simp ring;
    c = 𝟙;
    c_nonzero = one≢zero;
    a = 𝟏;
    left = ap (λ x. x ⊠ A) (number_one R eq) ∙ simp ring;
    d = 𝟙;
    d_nonzero = one≢zero;
    b = 𝟎;
    right = ap (λ x. number R eq 𝟙 ⊠ x) z ∙ simp ring;
  }

  step : (A B : Poly R) (q : PseudoQuotient A B) → CommonDivisor B q.rem → CommonDivisor A B
  step A B q t = record {
    divisor = t.divisor;
    divisor_nonzero = t.divisor_nonzero;
    u = t.v ⊠ number R eq q.factor;
    v = t.u ⊞ ⊟ (t.v ⊠ q.quo);
    combined = join _ _ _ _ _ _ _ _ q.is t.combined;
    c = t.c ⊙ t.d ⊙ q.factor;
    c_nonzero = mul_nonzero R D (mul_nonzero R D t.c_nonzero t.d_nonzero) q.factor_nonzero;
    a = number R eq t.d ⊠ q.quo ⊠ t.a ⊞ number R eq t.c ⊠ t.b;
    left = ap (λ x. x ⊠ A) (number_mul R eq _ _ ∙ ap (λ x. x ⊠ number R eq q.factor) (number_mul R eq _ _)) ∙ multiple _ _ _ _ _ _ _ _ _ _ q.is t.left t.right;
    d = t.c;
    d_nonzero = t.c_nonzero;
    b = t.a;
    right = t.left;
  }
    where
      join : (A B g s r u v D : Poly R) → g ⊠ A ≡ s ⊠ B ⊞ r → u ⊠ B ⊞ v ⊠ r ≡ D → v ⊠ g ⊠ A ⊞ (u ⊞ ⊟ (v ⊠ s)) ⊠ B ≡ D
      join A B g s r u v D e f = combine S v e (combine S 𝟏 f (by_ring S (A ∷ B ∷ g ∷ s ∷ r ∷ u ∷ v ∷ D ∷ []) (search quoting depth 30) tt))

      multiple : (A B g s r c d D a b : Poly R) → g ⊠ A ≡ s ⊠ B ⊞ r → c ⊠ B ≡ D ⊠ a → d ⊠ r ≡ D ⊠ b → c ⊠ d ⊠ g ⊠ A ≡ D ⊠ (d ⊠ s ⊠ a ⊞ c ⊠ b)
      multiple A B g s r c d D a b e f h = combine S (c ⊠ d) e (combine S (d ⊠ s) f (combine S c h (by_ring S (A ∷ B ∷ g ∷ s ∷ r ∷ c ∷ d ∷ D ∷ a ∷ b ∷ []) (search quoting depth 30) tt)))

  common_below : (n : ℕ) (A B : Poly R) → size R B ≤ n → ¬ (A ≡ 𝟎) → CommonDivisor A B
  common_below zero A B le n = alone A B (size_zero R eq B (omega arith)) n
  common_below (suc m) A B le n = go (common_below m) (zero? R eq B)
    where
      go : ((A B : Poly R) → size R B ≤ m → ¬ (A ≡ 𝟎) → CommonDivisor A B) → Dec (B ≡ 𝟎) → CommonDivisor A B
      go ih (yes z) = alone A B z n
      go ih (no k) =
          let q = pseudo_divide A B k in
          let l = q.less in
          step A B q (ih B q.rem (omega arith) k)

  pub common_divisor : (A B : Poly R) → ¬ (A ≡ 𝟎) → CommonDivisor A B
  common_divisor A B = common_below (size R B) A B (omega arith)
