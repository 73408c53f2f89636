use Rattle.tables.proofs.Contents.{Gathered}
use Rattle.tables.proofs.rows.Rows.content.Given as goal

abbrev pub invariant-loop-i : goal.invariant-loop-i
invariant-loop-i g l = Gathered (g.K.Coefficients.arithmetic l.kind) l.self.width l.self.codes.now l.content l.i l.n
