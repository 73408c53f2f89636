use Rattle.polynomials.specs.Steps.{Lessened}
use Rattle.polynomials.proofs.rows.lessen.Given as goal

abbrev pub invariant-loop-j : goal.invariant-loop-j
invariant-loop-j g l = Lessened (g.K.Coefficients.arithmetic l.kind) l.initial.acc l.acc l.shift l.by l.row l.j
