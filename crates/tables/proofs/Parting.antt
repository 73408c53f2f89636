-- The content of a table and what is left without it.
use Rattle.std.proofs.Common.{◌≡◌, ℕ, zero, suc, List, get_or, Ok, Err, sym, ap, ◌∙◌, inr, arith}
use mathlib.Core.Path.{fun_ext}
use Rattle.coefficients.specs.Arithmetic.{Arithmetic, Laws, IsField}
use Rattle.algebra.specs.Ring.{zero_mul, mul_one, mul_assoc}
use Rattle.algebra.specs.Divisors.{Divides, Invertible}
use Rattle.algebra.specs.Field.{field_domain}
use Rattle.algebra.specs.Lead.{Monic}
use Rattle.algebra.specs.Polynomial.{Poly, poly_discrete, same}
use Rattle.algebra.specs.Change.{poly₂}
use Rattle.algebra.proofs.Divisors.{divides_zero, divides_eq, cancel}
use Rattle.algebra.proofs.Euclid.{size_zero}
use Rattle.algebra.proofs.Degrees.{coef_zero, coef_scale, lead_at, poly_domain}
use Rattle.bivariate.proofs.Contents.{contents}
use Rattle.tables.specs.declared.faults.DivisionFault.{DivisionFault}
use Rattle.tables.specs.declared.faults.DivisionFault.TheVariants.{Reciprocal, Uneven}
use Rattle.polynomials.specs.Elements.{Element, element_discrete, elements, field, polynomial, polynomials, polynomial_xy}
use Rattle.polynomials.specs.Rows.{Inside, Sized}
use Rattle.tables.specs.Degrees.{ZeroRow}
use Rattle.polynomials.specs.Steps.{leading}
use Rattle.tables.specs.Content.{RowsGcd, Multiple, ContentOver, Parted, Gathering, EvenRows, Parting}
use Rattle.polynomials.proofs.Meaning.{of_polynomial, size_is, cleared, code_at, code_one}

module _ {K : Arithmetic} (laws : Laws K) (w : ℕ) (t d : List ℕ) (c : RowsGcd laws w t d) where
  open polynomials laws use {zero as O, one as I, mul as ◌⋆◌}
  open poly₂ (elements laws) (element_discrete K) use {zero as 𝟎, mul as ◌⊠◌}

  infixl 70 ◌⋆◌
  infixl 70 ◌⊠◌
  -- the content is zero only of zero
  pub zero_content : polynomial laws d ≡ O → polynomial_xy laws w t ≡ 𝟎
  zero_content z = same (polynomials laws) (poly_discrete (elements laws) (element_discrete K)) (fun_ext λ k. let (x, e) = c.divides k in e ∙ ap (λ y. y ⋆ x) z ∙ zero_mul (polynomials laws) x ∙ sym (coef_zero (polynomials laws) (poly_discrete (elements laws) (element_discrete K)) k))

  pub content_zero : polynomial_xy laws w t ≡ 𝟎 → polynomial laws d ≡ O
  content_zero z =
      let (x, e) = c.greatest O (λ k. divides_eq (polynomials laws) (sym (ap (λ (p : Poly (polynomials laws)). p.0 k) z ∙ coef_zero (polynomials laws) (poly_discrete (elements laws) (element_discrete K)) k)) (divides_zero (polynomials laws) O)) in
      e ∙ zero_mul (polynomials laws) x

  pub content_monic : (polynomial laws d ≡ O → ⊥) → Monic (elements laws) (polynomial laws d)
  content_monic n = c.normal (λ e. n (size_zero (elements laws) (element_discrete K) (polynomial laws d) e))

  -- what is left is primitive, over a field
  module _ (p : List ℕ) (m : Multiple laws w t d p) (only : IsField K) where
    -- what divides all that is left is a unit
    unit : (x : Poly (elements laws)) → ((k : ℕ) → Divides (polynomials laws) x ((polynomial_xy laws w p).0 k)) → Invertible (polynomials laws) x
    unfolding field
    unit x h =
        let (y, e) = c.greatest (polynomial laws d ⋆ x) (λ k. let (z, f) = h k in (z, at k ∙ ap (λ v. polynomial laws d ⋆ v) f ∙ sym (mul_assoc (polynomials laws) _ _ _))) in
        (y, cancel (polynomials laws) (poly_domain (elements laws) (element_discrete K) (field_domain (field laws only))) m.nonzero (mul_one (polynomials laws) _ ∙ e ∙ mul_assoc (polynomials laws) _ _ _))
      where
        at : (k : ℕ) → (polynomial_xy laws w t).0 k ≡ polynomial laws d ⋆ (polynomial_xy laws w p).0 k
        at k = ap (λ (A : Poly (polynomials laws)). A.0 k) m.is ∙ coef_scale (polynomials laws) (poly_discrete (elements laws) (element_discrete K)) (polynomial laws d) (polynomial_xy laws w p) k

    content_is : ContentOver laws only (polynomial_xy laws w t) (polynomial laws d) (polynomial_xy laws w p)
    unfolding field
    content_is = record { monic = content_monic m.nonzero; primitive = ((contents (field laws only)).primitive (polynomial_xy laws w p)).1 unit; is = m.is }

  pub parted : (p : List ℕ) → Multiple laws w t d p → Parted laws w t d p
  parted p m = record { nonzero = λ z. m.nonzero (content_zero z); gcd = c; is = m.is; content = content_is p m }

  -- the leading code of a content that is not zero is one
  pub lead_code : (n : ℕ) → Inside K d → Sized K d (suc n) → get_or d n 0 ≡ K.one
  lead_code n h s =
      let z = size_is laws d (suc n) h s in
      let (m, a, b) = c.normal (λ e. absurd (omega arith)) in
      let e : m ≡ n = omega arith in
      let i = s.within in
      sym (code_at laws d n h (omega arith)) ∙ ap (λ (x : Element K). x.0) (ap (λ f. f n) (sym (of_polynomial laws d)) ∙ ap (polynomial laws d).0 (sym e) ∙ b) ∙ code_one laws

module _ {K : Arithmetic} (laws : Laws K) (w : ℕ) (t held d p : List ℕ) (n : ℕ) (u : Gathering K w t d (Ok n)) where
  pub parting : EvenRows K w t d p (Ok tt) → Parting K w t held d p (Ok n)
  parting v = λ h.
      let a = u h in
      let b = v h a.0 in
      (a.0, b.0, a.1, λ lw. parted lw w t d (a.2 lw) p (b.1 lw))

  pub parting_refused : (e : DivisionFault) → EvenRows K w t d p (Err e) → Parting K w t held d p (Err e)
  parting_refused (Reciprocal e) v = λ h.
      let a = u h in
      let b = v h a.0 in
      let (c, is, bad) = b.1 in
      let (z, empty) = no_lead bad.size c a.0 bad.sized bad.lead bad.none (a.2 laws) in
      (a.0, (c, is, inr (z, b.0, λ lw. zero_content lw w t d (a.2 lw) (cleared lw d empty))))
    where
      -- only the leading coefficient of zero has no reciprocal
      no_lead : (k c : ℕ) → Inside K d → Sized K d k → c ≡ leading K d k → ((r : ℕ) → K.product c r ≡ K.one → ⊥) → RowsGcd laws w t d → (c ≡ K.zero) × ZeroRow K d
      no_lead zero c h s e none g = (e, λ i lt. s.zeros i (omega arith) lt)
      no_lead (suc k) c h s e none g = absurd (none K.one (ap (λ x. K.product x K.one) (e ∙ lead_code laws w t d g k h s) ∙ laws.product_one K.one laws.one_in))
  parting_refused Uneven v = λ h.
      let a = u h in
      let b = (v h a.0).1 laws in
      let (m, s, one) = content_monic laws w t d (a.2 laws) b.nonzero in
      let (i, no_way) = b.uneven (inr ((elements laws).one, sym (mul_one (elements laws) _ ∙ lead_at (elements laws) (element_discrete K) (polynomial laws d) m s ∙ one))) in
      no_way ((a.2 laws).divides i)
