-- Over a field: what a width, or a content and what is left without it, is in the words of the ring of elements.
use Rattle.std.proofs.Common.{◌≡◌, refl}
use Rattle.coefficients.specs.Arithmetic.{Arithmetic, Laws, IsField}
use Rattle.algebra.specs.Lead.{Monic}
use Rattle.algebra.specs.Polynomial.{Poly, poly_discrete, size}
use Rattle.algebra.specs.Change.{Poly₂, poly₂, number}
use Rattle.bivariate.specs.Primitive.{Primitive}
use Rattle.bivariate.specs.Degrees.{largest, width}
use Rattle.polynomials.specs.Elements.{element_discrete, elements, field, polynomials}
use Rattle.tables.specs.Degrees.{width_over}
use Rattle.tables.specs.Content.{ContentOver}

module _ {K : Arithmetic} (laws : Laws K) (only : IsField K) where
  open poly₂ (elements laws) (element_discrete K) use {mul as ◌⊠◌}

  infixl 70 ◌⊠◌
  pub width_is : (A : Poly₂ (elements laws) (element_discrete K)) → width_over laws only A ≡ largest (size (polynomials laws) A) (λ k. size (elements laws) (A.0 k))
  unfolding field width
  width_is A = refl

  pub content_is : (A P : Poly₂ (elements laws) (element_discrete K)) (c : Poly (elements laws)) → ContentOver laws only A c P →
      Monic (elements laws) c × Primitive (polynomials laws) P × (A ≡ number (polynomials laws) (poly_discrete (elements laws) (element_discrete K)) c ⊠ P)
  unfolding field
  content_is A P c h = (h.monic, h.primitive, h.is)
