use Rattle.tables.proofs.Growing.{Growing}
use Rattle.tables.proofs.join.grow.Given as goal

abbrev pub invariant-loop-code : goal.invariant-loop-code
invariant-loop-code g l = Growing (g.K.Coefficients.arithmetic l.kind) l.initial.master l.point l.master l.code-index l.below
