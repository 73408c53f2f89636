-- What a job asks of two tables of codes over a kind, computed on the polynomials that the tables mean.
use Rattle.std.specs.Prelude.{◌≡◌, ℕ, ◌+◌, min, max, Bool, true, false, ◌&&◌, List, map, length, ◌==◌, refl}
use Rattle.coefficients.specs.Arithmetic.{Arithmetic, Laws, IsField}
use Rattle.polynomials.specs.Rows.{Inside}
use Rattle.polynomials.specs.Elements.{Element, element_same, table}
use Rattle.brown.specs.Prepared.{Prepared}
use Rattle.rules.specs.Job.{Finding, zero_lead, image, Tested, passed, failed, Pair}
use Rattle.method.specs.Right.{Codes, Right}
use Rattle.values.specs.Ops.{Ops, codes, lists, scale, lead, value, degree}
use Rattle.values.specs.Values as Values
use Rattle.values.specs.Values.{degree_x, degree_y, quotient, gcd, primitive, join}
use Rattle.values.specs.Tables.{rows}
use Rattle.values.specs.Meaning.{scalars}

-- the codes of the elements of a kind
abbrev pub codes_of : (K : Arithmetic) → Codes (Element K)
codes_of K = record {
  element = K.element;
  code = λ α. α.0;
  decode = λ n h. (n, h);
  coded = λ α. α.1;
  code_decode = λ n h. refl;
  decode_code = λ α h. element_same K refl;
}

-- whether γ has the value zero at a point, and the degree of the image there
abbrev pub finding : Bool → ℕ → Finding
finding true k = zero_lead
finding false k = image k

-- whether the degrees add up
abbrev pub tested : Bool → Tested
tested true = passed
tested false = failed

-- γ, and the rows a and b of two primitive polynomials A' and B'
module _ (K : Arithmetic) (γ : List ℕ) (a b : List (List ℕ)) where
  abbrev O : Ops ℕ
  O = codes K

  -- g: the monic greatest common divisor of A'(x, α) and B'(x, α)
  abbrev pub image_gcd : ℕ → List ℕ
  image_gcd α = gcd K (Values.image K a α) (Values.image K b α)

  -- G*: joined at the points from γ(α) g
  abbrev pub join_divisor : List ℕ → List (List ℕ)
  join_divisor ps = join K ps (map (λ α. scale O (value O γ α) (image_gcd α)) ps)

  -- A* and B*: joined at the points from c(x, α) / g, where c is A' or B'
  abbrev pub join_cofactor : List (List ℕ) → List ℕ → List (List ℕ)
  join_cofactor c ps = join K ps (map (λ α. quotient K (Values.image K c α) (image_gcd α)) ps)

  -- the test: deg γ and the degree in y of A' are those in y of G* and A*, and likewise for B'
  abbrev pub adds_up : List ℕ → Bool
  adds_up ps =
      let d = degree_y (join_divisor ps) in
      (degree γ + degree_y a == d + degree_y (join_cofactor a ps)) && degree γ + degree_y b == d + degree_y (join_cofactor b ps)

  -- what a job asks of A' and B'
  abbrev pub pair_with : Pair
  pair_with = record {
    element = K.element;
    at_point = λ α. let k = degree (image_gcd α) in finding (O.null (value O γ α)) k;
    test = λ ps. tested (adds_up ps);
    closing = degree γ + max (degree_y a) (degree_y b) + 1;
    first_ceiling = 1 + min (degree_x a) (degree_x b);
  }

-- What a job asks of the polynomials that the tables a and b mean: A' and B' are these without their contents, and γ is the monic greatest common divisor of their leading coefficients in x.
unfoldable pub pair_of : Arithmetic → (a b : List ℕ) → Pair
pair_of K a b =
    let a' = primitive K (rows K a) in
    let b' = primitive K (rows K b) in
    let γ = gcd K (lead (lists (codes K)) a') (lead (lists (codes K)) b') in
    pair_with K γ a' b'

-- Over a field, for tables of 256 elements, this is right of the polynomials that they mean.
abbrev pub PairsRight : Arithmetic → Type 0
PairsRight K = (laws : Laws K) (only : IsField K) (a b : List ℕ) → length a ≡ 256 → length b ≡ 256 → Inside K a → Inside K b → (p : Prepared (scalars laws only) (table laws a) (table laws b)) → Right (scalars laws only) p (codes_of K) (pair_of K a b)
