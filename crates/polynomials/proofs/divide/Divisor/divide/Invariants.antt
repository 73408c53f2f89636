use Rattle.polynomials.proofs.Cutting.{Dividing}
use Rattle.polynomials.proofs.divide.Divisor.divide.Given as goal

abbrev pub invariant-loop-shift : goal.invariant-loop-shift
invariant-loop-shift g l = Dividing (g.K.Coefficients.arithmetic l.self.kind.now) l.initial.rest l.self.row.now l.self.count l.quotient l.rest l.shift
