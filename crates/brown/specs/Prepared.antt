-- Two polynomials in x and y, prepared for finding their greatest common divisor by images at points, and the numbers and the lucky points of what is prepared.
use Rattle.std.specs.Prelude.{◌≡◌, ℕ, ◌+◌, ◌*◌, min, max, cond, ◌==◌}
use Rattle.algebra.specs.Divisors.{Divides, Greatest}
use Rattle.algebra.specs.Polynomial.{Poly, poly, at}
use Rattle.algebra.specs.Change.{image}
use Rattle.algebra.specs.Field.{Field}
use Rattle.algebra.specs.Lead.{Monic}
use Rattle.bivariate.specs.Degrees.{K[y], K[y][x], deg, deg_x, deg_y, lead_x}
use Rattle.bivariate.specs.TwoUnknowns.{Content, Reduced}

module _ {E : Type 0} (F : Field E) where
  open F use {ring as K, discrete as eq}

  -- y is α: the polynomial A(x, α)
  abbrev pub at_y : E → K[y][x] F → Poly K
  at_y α A = (image K eq α).map A

  pub record Prepared (A B : K[y][x] F) : Type 0 where
    -- A and B are their contents times the primitive parts A' and B'
    pub content_A : K[y] F
    pub A' : K[y][x] F
    pub of_A : Content F A content_A A'
    pub content_B : K[y] F
    pub B' : K[y][x] F
    pub of_B : Content F B content_B B'
    -- γ is the monic greatest common divisor of the leading coefficients in x
    pub γ : K[y] F
    pub γ_monic : Monic K γ
    pub γ_greatest : Greatest (poly K eq) (lead_x F A') (lead_x F B') γ
    -- G' is the monic greatest common divisor of A' and B', and Ā' and B̄' are its cofactors
    pub G' : K[y][x] F
    pub Ā' : K[y][x] F
    pub B̄' : K[y][x] F
    pub reduced : Reduced F A' B' G' Ā' B̄'

  module _ {A B : K[y][x] F} (p : Prepared A B) where
    open p use {A', B', γ, G', Ā', B̄'}

    -- as many points determine γ A' and γ B'
    abbrev pub closing_number : ℕ
    closing_number = deg F γ + max (deg_y F A') (deg_y F B') + 1

    -- above the degree of every common divisor of images
    abbrev pub ceiling : ℕ
    ceiling = 1 + min (deg_x F A') (deg_x F B')

    -- how many lucky points give the greatest common divisor
    abbrev pub need : ℕ
    need = cond (deg_x F G' == 0) 1 closing_number

    -- how many elements at the most are not lucky
    abbrev pub unlucky_bound : ℕ
    unlucky_bound = deg F γ + (deg_x F Ā' * deg_y F B̄' + deg_x F B̄' * deg_y F Ā')

    -- γ is not zero at α, and every common divisor of Ā'(x, α) and B̄'(x, α) has degree 0
    pub record Lucky (α : E) : Type 0 where
      pub stands : ¬ (at K eq α γ ≡ K.zero)
      pub apart : (d : Poly K) → Divides (poly K eq) d (at_y α Ā') → Divides (poly K eq) d (at_y α B̄') → deg F d ≡ 0
