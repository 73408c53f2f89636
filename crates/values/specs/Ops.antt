-- Operations on codes of a ring, and from them the operations on polynomials: lists of codes from the constant up, with no zero at the end. All of them compute.
use Rattle.std.specs.Prelude.{ℕ, pred, Bool, true, false, List, [], ◌∷◌, length, ◌==◌, nat_lt}
use Rattle.coefficients.specs.Arithmetic.{Arithmetic}

-- what is computed with codes; `null` tells zero
pub record Ops (A : Type 0) : Type 0 where
  pub zero : A
  pub one : A
  pub sum : A → A → A
  pub difference : A → A → A
  pub product : A → A → A
  pub null : A → Bool

-- the operations of a kind
abbrev pub codes : Arithmetic → Ops ℕ
codes K = record {
  zero = K.zero;
  one = K.one;
  sum = K.sum;
  difference = K.difference;
  product = K.product;
  null = λ a. (a == K.zero);
}

module _ {A : Type 0} (O : Ops A) where
  -- a coefficient in front of the others: nothing where all are zero
  abbrev pub put : A → List A → List A
  put x [] = elim (O.null x) [ true ↦ [] | false ↦ x ∷ [] ]
  put x (y ∷ ys) = x ∷ y ∷ ys

  -- without the zeros at the end
  abbrev pub trim : List A → List A
  trim [] = []
  trim (x ∷ xs) = put x (trim xs)

  abbrev pub add : List A → List A → List A
  add [] ys = ys
  add (x ∷ xs) [] = x ∷ xs
  add (x ∷ xs) (y ∷ ys) = put (O.sum x y) (add xs ys)

  abbrev pub negate : List A → List A
  negate [] = []
  negate (x ∷ xs) = put (O.difference O.zero x) (negate xs)

  abbrev pub sub : List A → List A → List A
  sub xs ys = add xs (negate ys)

  -- c times the polynomial
  abbrev pub scale : A → List A → List A
  scale c [] = []
  scale c (x ∷ xs) = put (O.product c x) (scale c xs)

  abbrev pub mul : List A → List A → List A
  mul [] ys = []
  mul (x ∷ xs) ys = add (scale x ys) (put O.zero (mul xs ys))

  -- the coefficient of the highest power, and zero of zero
  abbrev pub lead : List A → A
  lead [] = O.zero
  lead (x ∷ []) = x
  lead (x ∷ y ∷ ys) = lead (y ∷ ys)

  -- the value at a, by Horner's rule
  abbrev pub value : List A → A → A
  value [] a = O.zero
  value (x ∷ xs) a = O.sum x (O.product a (value xs a))

  -- One turn of a division by ys: q is the quotient so far, and r what is left, with the next coefficient in front. From the leading coefficient of r, `part` answers the next one of the quotient.
  abbrev pub turn : (A → A) → List A → List A → List A → List A × List A
  turn part ys q r =
      elim (nat_lt (length r) (length ys)) [
        | true ↦ (put O.zero q, r)
        | false ↦ let c = part (lead r) in (put c q, sub r (scale c ys))
      ]

  -- quotient and remainder
  abbrev pub divide_by : (A → A) → List A → List A → List A × List A
  divide_by part ys [] = ([], [])
  divide_by part ys (x ∷ xs) = let d = divide_by part ys xs in turn part ys d.0 (put x d.1)

abbrev pub none : {A : Type 0} → List A → Bool
none [] = true
none (x ∷ xs) = false

-- the operations on polynomials. In two unknowns they are `lists (lists O)`
abbrev pub lists : {A : Type 0} → Ops A → Ops (List A)
lists O = record {
  zero = [];
  one = put O O.one [];
  sum = add O;
  difference = sub O;
  product = mul O;
  null = none;
}

-- the degree, and 0 of zero
abbrev pub degree : {A : Type 0} → List A → ℕ
degree xs = pred (length xs)
