use Rattle.std.proofs.Common.{arith}
use Rattle.tables.proofs.Correcting.{corrects}
use Rattle.tables.proofs.join.correct_row.Goals as goal

pub returns : goal.returns
returns g c =
    corrects c.args.master.now c.args.row.now c.lessen.new.acc c.args.point c.args.inverse c.args.value c.horner.result c.mul.result (omega arith) (omega arith) (omega arith)
    (rw c.sub-excess.ensures at c.mul.ensures) (rw c.requires.master at c.lessen.ensures) (g.met.K.Coefficients.laws c.args.kind.now) c.horner.ensures
