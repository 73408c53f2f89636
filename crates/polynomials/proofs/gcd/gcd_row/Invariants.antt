use Rattle.polynomials.proofs.Common.{Euclid}
use Rattle.polynomials.proofs.gcd.gcd_row.Given as goal

abbrev pub invariant-loop-n : goal.invariant-loop-n
invariant-loop-n g l = Euclid (g.K.Coefficients.arithmetic l.kind) l.initial.a l.initial.b l.a l.b l.n

abbrev pub decreases-loop-n : goal.decreases-loop-n
decreases-loop-n g l = l.n
