use Rattle.tables.proofs.Correcting.{Correcting}
use Rattle.tables.proofs.join.correct.Given as goal

abbrev pub invariant-loop-i : goal.invariant-loop-i
invariant-loop-i g l = Correcting (g.K.Coefficients.arithmetic l.kind) l.master l.point l.inverse l.values l.initial.joined l.joined l.i
