-- Over a field: the field of elements with its ring in sight, and the faults that it never gives.
use Rattle.std.proofs.Common.{◌≡◌}
use Rattle.coefficients.specs.Arithmetic.{Arithmetic, Laws, IsField}
use Rattle.algebra.specs.Polynomial.{Poly}
use Rattle.algebra.specs.Change.{Poly₂}
use Rattle.bivariate.specs.Degrees.{width}
use Rattle.bivariate.specs.TwoUnknowns.{Content}
use Rattle.polynomials.specs.Elements.{element_discrete, elements}
use Rattle.tables.specs.Degrees.{width_over}
use Rattle.tables.specs.Content.{ContentOver}
use Rattle.tables.proofs.OverElements as OverElements
use Rattle.values.specs.Meaning.{scalars}

module _ {K : Arithmetic} (laws : Laws K) (only : IsField K) where
  pub content_here : (A P : Poly₂ (elements laws) (element_discrete K)) (c : Poly (elements laws)) → ContentOver laws only A c P → Content (scalars laws only) A c P
  content_here A P c h = let u = OverElements.content_is laws only A P c h in record { monic = u.0; primitive = u.1; is = u.2 }

  pub width_here : (A : Poly₂ (elements laws) (element_discrete K)) → width_over laws only A ≡ width (scalars laws only) A
  unfolding width
  width_here A = OverElements.width_is laws only A
