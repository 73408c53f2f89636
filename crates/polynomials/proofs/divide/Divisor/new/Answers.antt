use Rattle.std.proofs.Common.{ℕ, sym, subst}
use Rattle.coefficients.specs.declared.kind.ReciprocalFault.TheVariants.{NoReciprocal}
use Rattle.polynomials.specs.Rows.{Sized}
use Rattle.polynomials.specs.Steps.{Undivided}
use Rattle.polynomials.proofs.Inverse.{undivided_zero}
use Rattle.polynomials.proofs.divide.Divisor.new.Goals as goal

pub returns-then-count-eq0-clause-err : goal.returns-then-count-eq0-clause-err
returns-then-count-eq0-clause-err g c =
    let K = g.K.Coefficients.arithmetic c.args.kind.now in
    let row = c.args.row.now in
    let s = subst (λ (n : ℕ). Sized K row n) c.if-count-eq0.true c.size-count.ensures in
    subst (λ (z : ℕ). Undivided K row (NoReciprocal z)) (sym c.zero.ensures) (undivided_zero (g.met.K.Coefficients.laws c.args.kind.now) row s)
