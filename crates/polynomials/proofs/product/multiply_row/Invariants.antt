use Rattle.polynomials.proofs.Products.{Multiplying}
use Rattle.polynomials.proofs.product.multiply_row.Given as goal

abbrev pub invariant-loop-i : goal.invariant-loop-i
invariant-loop-i g l = Multiplying (g.K.Coefficients.arithmetic l.kind) l.a l.b l.product l.i
