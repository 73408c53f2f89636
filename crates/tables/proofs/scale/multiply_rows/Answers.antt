use Rattle.std.proofs.Common.{◌+◌, ◌≤◌, length, arith}
use Rattle.std.proofs.lemmas.Result.{err_from_is_err_and}
use Rattle.tables.proofs.Multiples.{scaled_more, scaled_refused, scaled_all}
use Rattle.tables.proofs.scale.multiply_rows.Goals as goal

pub loop-i-preserved : goal.loop-i-preserved
loop-i-preserved g c =
    let fits : c.row_start-start.result + c.args.rows.now.width ≤ length c.loop-i.product = omega arith in
    scaled_more _ _ _ _ _ _ _ _ _ c.row_start-start.ensures.place fits c.multiply_row.auto.product c.loop-i.invariant (rw (c.each.ensures.codes c.loop-i.i _ (omega arith)) at c.in_ok-multiply_row.ensures)

pub returns-in_err-multiply_row : goal.returns-in_err-multiply_row
returns-in_err-multiply_row g c =
    let fits : c.row_start-start.result + c.args.rows.now.width ≤ length c.loop-i.product = omega arith in
    let r = err_from_is_err_and c.from_residual.result c.from_residual.ensures.1 in
    rw r.1
    (scaled_refused _ _ _ _ _ _ _ _ _ c.row_start-start.ensures.place fits c.multiply_row.auto.product c.loop-i.invariant c.in_err-multiply_row.field-0.0 (rw (c.each.ensures.codes c.loop-i.i _ (omega arith)) at c.in_err-multiply_row.ensures))

pub returns : goal.returns
returns g c = scaled_all _ _ _ _ _ _ c.args.rows.now.sixteen (omega arith) (omega arith) c.loop-i.invariant
