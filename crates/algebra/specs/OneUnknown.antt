-- The theorems on polynomials in one unknown over a field.
use Rattle.std.specs.Prelude.{◌≡◌, suc, ◌+◌, ◌<◌, ◌≤◌, ◌↔◌, List, length}
use Rattle.algebra.specs.Divisors.{Divides, Invertible, Associates, Coprime, Greatest, Combined}
use Rattle.algebra.specs.Polynomial.{Poly, poly, size, at}
use Rattle.algebra.specs.Change.{number, linear}
use Rattle.algebra.specs.Field.{Field}
use Rattle.algebra.specs.Lead.{lead, Monic, Normal}
use Rattle.algebra.specs.Lists.{All, Distinct}

module _ {E : Type 0} (F : Field E) where
  open F use {ring as K, discrete as eq}
  open poly K eq use {zero as 𝟘, one as 𝟙, add as ◌⊕◌, mul as ◌⊙◌}

  infixl 60 ◌⊕◌
  infixl 70 ◌⊙◌
  -- evaluation at a point respects zero, one, sums and products, and a root is a linear factor
  pub record Evaluation : Type 0 where
    pub zero : (x : E) → at K eq x 𝟘 ≡ K.zero
    pub one : (x : E) → at K eq x 𝟙 ≡ K.one
    pub sum : (x : E) (p q : Poly K) → at K eq x (p ⊕ q) ≡ K.add (at K eq x p) (at K eq x q)
    pub product : (x : E) (p q : Poly K) → at K eq x (p ⊙ q) ≡ K.mul (at K eq x p) (at K eq x q)
    -- a root splits off its linear factor
    pub root : (a : E) (p : Poly K) → at K eq a p ≡ K.zero → Divides (poly K eq) (linear K eq a) p
    -- a polynomial of size at most n that is zero at n different points is zero
    pub roots : (xs : List E) (p : Poly K) → Distinct xs → All (λ x. at K eq x p ≡ K.zero) xs → size K p ≤ length xs → p ≡ 𝟘

  -- p is a multiple of q and a remainder that is smaller than q
  pub record Quotient (p q : Poly K) : Type 0 where
    pub quo : Poly K
    pub rem : Poly K
    pub is : p ≡ quo ⊙ q ⊕ rem
    pub less : size K rem < size K q

  -- what is not zero divides with a remainder, in one way
  pub record Division : Type 0 where
    pub quotient : (p q : Poly K) → ¬ (q ≡ 𝟘) → Quotient p q
    pub unique : (p q : Poly K) (s t : Quotient p q) → (s.quo ≡ t.quo) × (s.rem ≡ t.rem)

  -- in a product degrees add up and leading coefficients multiply
  pub record Degrees : Type 0 where
    pub size_product : (p q : Poly K) → ¬ (p ≡ 𝟘) → ¬ (q ≡ 𝟘) → suc (size K (p ⊙ q)) ≡ size K p + size K q
    pub lead_product : (p q : Poly K) → lead K (p ⊙ q) ≡ K.mul (lead K p) (lead K q)

  -- units, monic and coprime polynomials, and greatest common divisors
  pub record Gcd : Type 0 where
    -- the units are the constants that are not zero
    pub units : (p : Poly K) → Invertible (poly K eq) p ↔ ((c : E) × ¬ (c ≡ K.zero) × (p ≡ number K eq c))
    -- a polynomial that is not zero has exactly one monic associate
    pub monic : (p : Poly K) → ¬ (p ≡ 𝟘) → (m : Poly K) × Monic K m × Associates (poly K eq) p m
    pub monic_unique : (p m n : Poly K) → Monic K m → Monic K n → Associates (poly K eq) p m → Associates (poly K eq) p n → m ≡ n
    -- any two polynomials have exactly one normal greatest common divisor, and it is a combination of them
    pub gcd : (p q : Poly K) → (t : Combined (poly K eq) p q) × Normal K t.gcd
    pub gcd_unique : (p q g h : Poly K) → Greatest (poly K eq) p q g → Greatest (poly K eq) p q h → Normal K g → Normal K h → g ≡ h
    -- coprime polynomials are those whose greatest common divisor is one
    pub coprime : (p q : Poly K) → Coprime (poly K eq) p q ↔ Greatest (poly K eq) p q 𝟙
    -- Euclid's lemma
    pub coprime_divides : (c p q : Poly K) → Coprime (poly K eq) c p → Divides (poly K eq) c (p ⊙ q) → Divides (poly K eq) c q
    pub coprime_product : (c p q : Poly K) → Coprime (poly K eq) c p → Coprime (poly K eq) c q → Coprime (poly K eq) c (p ⊙ q)
