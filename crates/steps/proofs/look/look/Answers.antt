use Rattle.std.proofs.Common.{sym, ap, ◌∙◌}
use Rattle.std.proofs.lemmas.Result.{err_from_is_err_and}
use Rattle.polynomials.specs.Elements.{element_same, element_discrete, elements, read}
use Rattle.algebra.specs.Polynomial.{Poly, at}
use Rattle.polynomials.proofs.Meaning.{code_zero}
use Rattle.steps.proofs.look.look.Goals as goal

pub returns-then-value-zero : goal.returns-then-value-zero
returns-then-value-zero g c a b w αi laws only p =
    let K = g.K.Coefficients.arithmetic c.args.kind.now in
    let told = c.horner-value.ensures w.γ_in αi in
    element_same K (sym (ap (λ (q : Poly (elements laws)). (at (elements laws) (element_discrete K) (read laws c.args.point) q).0) (w.same laws only p).γ) ∙ told.1 laws ∙ c.if-value-zero.true ∙ c.zero.ensures ∙ sym (code_zero laws))

pub returns-in_err-images : goal.returns-in_err-images
returns-in_err-images g c =
    let p = err_from_is_err_and c.from_residual.result c.from_residual.ensures.1 in
    rw (p.1, p.2) c.in_err-images.ensures

pub returns : goal.returns
returns g c a b w αi =
    let told = c.horner-value.ensures w.γ_in αi in
    c.in_ok-images.ensures a b w αi told.0 told.1 (λ z. c.if-value-zero.false (z ∙ sym c.zero.ensures))
