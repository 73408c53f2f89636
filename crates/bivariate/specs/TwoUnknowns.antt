-- The theorems on polynomials in x and y over a field: contents, Gauss's lemma, greatest common divisors and degrees.
use Rattle.std.specs.Prelude.{◌≡◌, ℕ, ◌+◌, ◌≤◌, ◌↔◌}
use Rattle.algebra.specs.Divisors.{Divides, Invertible, Greatest}
use Rattle.algebra.specs.Polynomial.{poly}
use Rattle.algebra.specs.Change.{poly₂}
use Rattle.algebra.specs.Field.{Field}
use Rattle.algebra.specs.Lead.{Monic}
use Rattle.bivariate.specs.Primitive.{Primitive}
use Rattle.bivariate.specs.Degrees.{K[y], K[y][x], lift, deg_x, lead_x, Within, width, deg_y, Monic₂}

module _ {E : Type 0} (F : Field E) where
  open F use {ring as K, discrete as eq}
  open poly K eq use {zero as 𝟘, mul as ◌⊙◌}
  open poly₂ K eq use {zero as 𝟎, add as ◌⊞◌, mul as ◌⊠◌}

  infixl 70 ◌⊙◌
  infixl 60 ◌⊞◌
  infixl 70 ◌⊠◌
  -- c is the content of A, and A' its primitive part
  pub record Content (A : K[y][x] F) (c : K[y] F) (A' : K[y][x] F) : Type 0 where
    pub monic : Monic K c
    pub primitive : Primitive (poly K eq) A'
    pub is : A ≡ lift F c ⊠ A'

  -- each polynomial but zero has a content and a primitive part
  pub record Contents : Type 0 where
    pub content : (A : K[y][x] F) → ¬ (A ≡ 𝟎) → (c : K[y] F) × (A' : K[y][x] F) × Content A c A'
    pub unique : {A : K[y][x] F} {c d : K[y] F} {A' A'' : K[y][x] F} → Content A c A' → Content A d A'' → (c ≡ d) × (A' ≡ A'')
    -- the content is the greatest common divisor of the coefficients
    pub divides : {A : K[y][x] F} {c : K[y] F} {A' : K[y][x] F} → Content A c A' → (k : ℕ) → Divides (poly K eq) c (A.0 k)
    pub greatest : {A : K[y][x] F} {c : K[y] F} {A' : K[y][x] F} → Content A c A' → (d : K[y] F) → ((k : ℕ) → Divides (poly K eq) d (A.0 k)) → Divides (poly K eq) d c
    -- primitive are those of whose coefficients units are the only common divisors
    pub primitive : (A : K[y][x] F) → Primitive (poly K eq) A ↔ ((d : K[y] F) → ((k : ℕ) → Divides (poly K eq) d (A.0 k)) → Invertible (poly K eq) d)

  -- Gauss's lemma, and that a primitive divisor of a multiple by a polynomial in y is a divisor
  pub record Gauss : Type 0 where
    pub product : (A B : K[y][x] F) → Primitive (poly K eq) A → Primitive (poly K eq) B → Primitive (poly K eq) (A ⊠ B)
    pub divisor : (D A : K[y][x] F) (γ : K[y] F) → Primitive (poly K eq) D → ¬ (γ ≡ 𝟘) → Divides (poly₂ K eq) D (lift F γ ⊠ A) → Divides (poly₂ K eq) D A

  -- G is the monic greatest common divisor of A and B, and Ā and B̄ are its cofactors
  pub record Reduced (A B G Ā B̄ : K[y][x] F) : Type 0 where
    pub monic : Monic₂ F G
    pub greatest : Greatest (poly₂ K eq) A B G
    pub left : A ≡ G ⊠ Ā
    pub right : B ≡ G ⊠ B̄

  -- a combination of A and B is free of x, and not zero
  pub record CoprimeInX (A B : K[y][x] F) : Type 0 where
    pub S : K[y][x] F
    pub T : K[y][x] F
    pub δ : K[y] F
    pub nonzero : ¬ (δ ≡ 𝟘)
    pub combined : S ⊠ A ⊞ T ⊠ B ≡ lift F δ

  -- any two polynomials but zero have exactly one monic greatest common divisor
  pub record Gcds : Type 0 where
    pub gcd : (A B : K[y][x] F) → ¬ (A ≡ 𝟎) → ¬ (B ≡ 𝟎) → (G : K[y][x] F) × (Ā : K[y][x] F) × (B̄ : K[y][x] F) × Reduced A B G Ā B̄
    pub unique : {A B G Ā B̄ H Ã B̃ : K[y][x] F} → ¬ (A ≡ 𝟎) → Reduced A B G Ā B̄ → Reduced A B H Ã B̃ → (G ≡ H) × (Ā ≡ Ã) × (B̄ ≡ B̃)
    -- of primitive polynomials it is primitive, and a combination of the cofactors is free of x
    pub primitive : {A B G Ā B̄ : K[y][x] F} → Primitive (poly K eq) A → Primitive (poly K eq) B → Reduced A B G Ā B̄ → Primitive (poly K eq) G × CoprimeInX Ā B̄
    -- it is the greatest common divisor of the contents times that of the primitive parts
    pub contents : {A B A' B' G' Ā' B̄' : K[y][x] F} {a b c : K[y] F} → Content A a A' → Content B b B' → Monic K c → Greatest (poly K eq) a b c → Reduced A' B' G' Ā' B̄' → Monic₂ F (lift F c ⊠ G') × Greatest (poly₂ K eq) A B (lift F c ⊠ G')

  -- in a product the degrees in x and in y add up, and the leading coefficients in x multiply
  pub record Degrees : Type 0 where
    pub in_x : (A B : K[y][x] F) → ¬ (A ≡ 𝟎) → ¬ (B ≡ 𝟎) → deg_x F (A ⊠ B) ≡ deg_x F A + deg_x F B
    pub in_y : (A B : K[y][x] F) → ¬ (A ≡ 𝟎) → ¬ (B ≡ 𝟎) → deg_y F (A ⊠ B) ≡ deg_y F A + deg_y F B
    pub leads : (A B : K[y][x] F) → lead_x F (A ⊠ B) ≡ lead_x F A ⊙ lead_x F B
    -- the width is the least bound of the sizes in y
    pub width_least : (A : K[y][x] F) (n : ℕ) → (width F A ≤ n) ↔ Within F n A
