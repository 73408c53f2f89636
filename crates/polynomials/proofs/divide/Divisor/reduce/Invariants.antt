use Rattle.polynomials.proofs.Cutting.{Reducing}
use Rattle.polynomials.proofs.divide.Divisor.reduce.Given as goal

abbrev pub invariant-loop-shift : goal.invariant-loop-shift
invariant-loop-shift g l = Reducing (g.K.Coefficients.arithmetic l.self.kind.now) l.initial.rest l.self.row.now l.self.count l.rest l.shift
