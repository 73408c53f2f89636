-- Images at points, what is joined from them, and the test on it.
use Rattle.std.specs.Prelude.{◌≡◌, ℕ, ◌+◌, List, [], ◌∷◌, length}
use Rattle.algebra.specs.Divisors.{Greatest}
use Rattle.algebra.specs.Polynomial.{Poly, poly, at}
use Rattle.algebra.specs.Change.{number}
use Rattle.algebra.specs.Field.{Field}
use Rattle.algebra.specs.Lead.{Monic}
use Rattle.algebra.specs.Lists.{All, Distinct}
use Rattle.bivariate.specs.Degrees.{K[y][x], deg, deg_y, Within}
use Rattle.brown.specs.Prepared.{at_y, Prepared, closing_number}

-- the lists are of one length, and P holds of what stands in the same place
abbrev pub Pairwise : {A B : Type 0} → (A → B → Type 0) → List A → List B → Type 0
Pairwise P [] [] = Unit {0}
Pairwise P [] (b ∷ l) = ⊥
Pairwise P (a ∷ k) [] = ⊥
Pairwise P (a ∷ k) (b ∷ l) = P a b × Pairwise P k l

module _ {E : Type 0} (F : Field E) {A B : K[y][x] F} (p : Prepared F A B) where
  open F use {ring as K, discrete as eq}
  open poly K eq use {mul as ◌⊙◌}
  open p use {A', B', γ}

  infixl 70 ◌⊙◌
  -- g is the monic greatest common divisor of A'(x, α) and B'(x, α)
  pub record Image (α : E) (g : Poly K) : Type 0 where
    pub monic : Monic K g
    pub greatest : Greatest (poly K eq) (at_y F α A') (at_y F α B') g

  -- γ is not zero at α, and the greatest common divisor of the images has degree k
  pub record Fits (k : ℕ) (α : E) : Type 0 where
    pub stands : ¬ (at K eq α γ ≡ K.zero)
    pub g : Poly K
    pub image : Image α g
    pub degree : deg F g ≡ k

  -- as many different points as the closing number, of one degree
  pub record Sample (k : ℕ) (αs : List E) : Type 0 where
    pub number : length αs ≡ closing_number F p
    pub distinct : Distinct αs
    pub fits : All (Fits k) αs

  -- at α the values of G*, A* and B* are γ(α) g, A'(x, α) / g and B'(x, α) / g
  pub record JoinedAt (G* A* B* : K[y][x] F) (α : E) : Type 0 where
    pub g : Poly K
    pub image : Image α g
    pub of_G : at_y F α G* ≡ number K eq (at K eq α γ) ⊙ g
    pub of_A : at_y F α A' ≡ g ⊙ at_y F α A*
    pub of_B : at_y F α B' ≡ g ⊙ at_y F α B*

  -- they have a degree in y below the closing number, and these values at every point of the list
  pub record Joined (αs : List E) (G* A* B* : K[y][x] F) : Type 0 where
    pub G_within : Within F (closing_number F p) G*
    pub A_within : Within F (closing_number F p) A*
    pub B_within : Within F (closing_number F p) B*
    pub values : All (JoinedAt G* A* B*) αs

  -- the test: the degrees in y add up
  pub record Passes (G* A* B* : K[y][x] F) : Type 0 where
    pub left : deg F γ + deg_y F A' ≡ deg_y F G* + deg_y F A*
    pub right : deg F γ + deg_y F B' ≡ deg_y F G* + deg_y F B*
