-- Polynomials in x whose coefficients are polynomials in y, over a field: degrees, leading coefficients and sizes in y.
use Rattle.std.specs.Prelude.{ℕ, zero, suc, pred, ◌≤◌, max}
use Rattle.algebra.specs.Polynomial.{Poly, poly, poly_discrete, size}
use Rattle.algebra.specs.Change.{Poly₂, number}
use Rattle.algebra.specs.Field.{Field}
use Rattle.algebra.specs.Lead.{lead, LeadIs, Monic}

-- the largest of the first n values, and 0 of none
unfoldable pub largest : ℕ → (ℕ → ℕ) → ℕ
largest zero f = 0
largest (suc n) f = max (f n) (largest n f)

module _ {E : Type 0} (F : Field E) where
  open F use {ring as K, discrete as eq}

  -- polynomials in y
  abbrev pub K[y] : Type 0
  K[y] = Poly K

  -- polynomials in x and y
  abbrev pub K[y][x] : Type 0
  K[y][x] = Poly₂ K eq

  -- a polynomial in y, as one in x and y
  abbrev pub lift : K[y] → K[y][x]
  lift c = number (poly K eq) (poly_discrete K eq) c

  -- the degree of a polynomial in one unknown, and 0 of zero
  abbrev pub deg : Poly K → ℕ
  deg p = pred (size K p)

  -- the degree in x, and 0 of zero
  abbrev pub deg_x : K[y][x] → ℕ
  deg_x A = pred (size (poly K eq) A)

  -- the coefficient of the highest power of x, and zero of zero
  abbrev pub lead_x : K[y][x] → K[y]
  lead_x A = lead (poly K eq) A

  -- every coefficient has a size of at most n: the degree in y is below n
  abbrev pub Within : ℕ → K[y][x] → Type 0
  Within n A = (k : ℕ) → size K (A.0 k) ≤ n

  -- the largest size of a coefficient
  unfoldable pub width : K[y][x] → ℕ
  width A = largest (size (poly K eq) A) (λ k. size K (A.0 k))

  -- the degree in y, and 0 of zero
  abbrev pub deg_y : K[y][x] → ℕ
  deg_y A = pred (width A)

  -- the leading coefficient in x is monic in y
  abbrev pub Monic₂ : K[y][x] → Type 0
  Monic₂ = LeadIs (poly K eq) (Monic K)
