use Rattle.tables.proofs.Multiples.{Scaled}
use Rattle.tables.proofs.scale.multiply_rows.Given as goal

abbrev pub invariant-loop-i : goal.invariant-loop-i
invariant-loop-i g l = Scaled (g.K.Coefficients.arithmetic l.kind) l.rows.width l.rows.codes.now l.by l.product l.i
