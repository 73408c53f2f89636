-- The values that rules on polynomials over a kind speak of. A polynomial in y is a list of codes; one in x and y is a list of rows, the coefficients of the powers of x, which are polynomials in y. Neither has a zero at the end.
use Rattle.std.specs.Prelude.{ℕ, zero, suc, pred, max, List, [], ◌∷◌, length}
use Rattle.coefficients.specs.Arithmetic.{Arithmetic}
use Rattle.values.specs.Ops.{Ops, codes, lists, put, add, scale, mul, lead, value, divide_by}

-- the longest row's length
abbrev pub width : List (List ℕ) → ℕ
width [] = 0
width (r ∷ rows) = max (length r) (width rows)

-- the degree in x, and 0 of zero
abbrev pub degree_x : List (List ℕ) → ℕ
degree_x rows = pred (length rows)

-- the degree in y, and 0 of zero
abbrev pub degree_y : List (List ℕ) → ℕ
degree_y rows = pred (width rows)

module _ (K : Arithmetic) where
  abbrev O : Ops ℕ
  O = codes K

  -- the polynomial in x that the rows become where y is a
  abbrev pub image : List (List ℕ) → ℕ → List ℕ
  image [] a = []
  image (r ∷ rows) a = put O (value O r a) (image rows a)

  -- every row times a polynomial in y
  abbrev pub times : List ℕ → List (List ℕ) → List (List ℕ)
  times c rows = scale (lists O) c rows

  -- with leading coefficient one; zero of zero
  abbrev pub monic : List ℕ → List ℕ
  monic xs = scale O (K.inverse (lead O xs)) xs

  -- quotient and remainder
  abbrev pub divide : List ℕ → List ℕ → List ℕ × List ℕ
  divide xs ys = let i = K.inverse (lead O ys) in divide_by O (λ a. K.product a i) ys xs

  abbrev pub quotient : List ℕ → List ℕ → List ℕ
  quotient xs ys = (divide xs ys).0

  abbrev pub remainder : List ℕ → List ℕ → List ℕ
  remainder xs ys = (divide xs ys).1

  -- Euclid's algorithm, in at most n steps
  abbrev pub euclid : ℕ → List ℕ → List ℕ → List ℕ
  euclid zero xs ys = []
  euclid (suc n) xs [] = monic xs
  euclid (suc n) xs (y ∷ ys) = euclid n (y ∷ ys) (remainder xs (y ∷ ys))

  -- the monic greatest common divisor; zero of two zeros
  abbrev pub gcd : List ℕ → List ℕ → List ℕ
  gcd xs ys = euclid (suc (length ys)) xs ys

  -- the monic greatest common divisor of the rows
  abbrev pub content : List (List ℕ) → List ℕ
  content [] = []
  content (r ∷ rows) = gcd r (content rows)

  -- every row divided by c
  abbrev pub over : List ℕ → List (List ℕ) → List (List ℕ)
  over c [] = []
  over c (r ∷ rows) = put (lists O) (quotient r c) (over c rows)

  -- the primitive part
  abbrev pub primitive : List (List ℕ) → List (List ℕ)
  primitive rows = over (content rows) rows

  -- rows divided by rows, where that leaves nothing
  abbrev pub quotient_x : List (List ℕ) → List (List ℕ) → List (List ℕ)
  quotient_x a b = let l = lead (lists O) b in (divide_by (lists O) (λ c. quotient c l) b a).0

  -- γ: the monic greatest common divisor of the leading coefficients in x of the primitive parts
  abbrev pub lead_gcd : List (List ℕ) → List (List ℕ) → List ℕ
  lead_gcd a b = gcd (lead (lists O) (primitive a)) (lead (lists O) (primitive b))

  -- y - a
  abbrev pub root : ℕ → List ℕ
  root a = put O (K.difference K.zero a) (put O K.one [])

  -- Newton's interpolation: the polynomial through the values at the points, and the one that is zero at the points
  abbrev pub newton : List ℕ → List ℕ → List ℕ × List ℕ
  newton [] vs = ([], (lists O).one)
  newton (a ∷ ps) [] = ([], (lists O).one)
  newton (a ∷ ps) (v ∷ vs) =
      let d = newton ps vs in
      let c = K.product (K.difference v (value O d.0 a)) (K.inverse (value O d.1 a)) in
      (add O d.0 (scale O c d.1), mul O (root a) d.1)

  -- the polynomial of least degree with the values vs at the points ps
  abbrev pub interpolate : List ℕ → List ℕ → List ℕ
  interpolate ps vs = (newton ps vs).0

  -- the constants of some polynomials
  abbrev pub firsts : List (List ℕ) → List ℕ
  firsts [] = []
  firsts ([] ∷ vs) = K.zero ∷ firsts vs
  firsts ((x ∷ xs) ∷ vs) = x ∷ firsts vs

  -- the polynomials without their constants
  abbrev pub rests : List (List ℕ) → List (List ℕ)
  rests [] = []
  rests ([] ∷ vs) = [] ∷ rests vs
  rests ((x ∷ xs) ∷ vs) = xs ∷ rests vs

  -- the first n rows of the join
  abbrev pub join_rows : ℕ → List ℕ → List (List ℕ) → List (List ℕ)
  join_rows zero ps vs = []
  join_rows (suc n) ps vs = put (lists O) (interpolate ps (firsts vs)) (join_rows n ps (rests vs))

  -- the rows of least degree in y with the images vs at the points ps
  abbrev pub join : List ℕ → List (List ℕ) → List (List ℕ)
  join ps vs = join_rows (width vs) ps vs
