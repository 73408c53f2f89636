use Rattle.std.proofs.lemmas.Result.{err_from_is_err_and}
use Rattle.steps.proofs.Reading.{no_room}
use Rattle.steps.proofs.answer.enlarge.Goals as goal

pub returns-in_err-multiply_rows : goal.returns-in_err-multiply_rows
returns-in_err-multiply_rows g c =
    let p = err_from_is_err_and c.from_residual.result c.from_residual.ensures.1 in
    rw (p.1, p.2) (no_room (g.met.K.Coefficients.laws c.args.kind.now) c.args.table.now c.args.by.now c.multiply_rows.new.product _ c.in_err-multiply_rows.ensures)
