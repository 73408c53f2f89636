use Rattle.tables.proofs.Evenly.{Divided}
use Rattle.tables.proofs.content.divide_rows.Given as goal

abbrev pub invariant-loop-i : goal.invariant-loop-i
invariant-loop-i g l = Divided (g.K.Coefficients.arithmetic l.kind) l.rows.width l.rows.codes.now l.by l.quotient l.i
