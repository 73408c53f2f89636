-- Primitive polynomials: those of whose coefficients some combination is one.
use Rattle.std.specs.Prelude.{◌≡◌, zero, List, [], ◌∷◌}
use Rattle.algebra.specs.Ring.{Ring}
use Rattle.algebra.specs.Series.{Series, tail}
use Rattle.algebra.specs.Polynomial.{Poly}

module _ {E : Type 0} (R : Ring E) where
  -- the first coefficients of f, each times the weight at its place, added up
  unfoldable pub weighted : List E → Series E → E
  weighted [] f = R.zero
  weighted (u ∷ us) f = R.add (R.mul u (f zero)) (weighted us (tail f))

  -- with some weights the coefficients add up to one
  abbrev pub Primitive : Poly R → Type 0
  Primitive H = (us : List E) × (weighted us H.0 ≡ R.one)
