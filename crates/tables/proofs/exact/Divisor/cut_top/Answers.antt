use Rattle.std.proofs.Common.{◌+◌, ◌≤◌, length, Ok, Err, arith}
use Rattle.std.proofs.lemmas.Result.{err_from_is_err_and}
use Rattle.tables.proofs.Evenly.{even_rows}
use Rattle.tables.proofs.Tops.{cut_done, cut_no_room, cut_refused}
use Rattle.tables.proofs.exact.Divisor.cut_top.Goals as goal

pub returns-in_err-divide_even : goal.returns-in_err-divide_even
returns-in_err-divide_even g c =
    let at = c.row_start-start.ensures.place in
    let fits : c.row_start-start.result + c.args.self.now.rows.width ≤ length c.args.quotient.now = omega arith in
    let top = rw (c.new.ensures.codes, c.new.ensures.width) at c.row-top.ensures.codes in
    let p = err_from_is_err_and c.from_residual.result c.from_residual.ensures.1 in
    rw (p.1, p.2)
    (cut_refused _ _ _ _ _ _ _ _ _ at fits c.divide_even.auto.quotient c.args.self.now.some c.args.self.now.sized _
    (even_rows (g.K.Coefficients.arithmetic c.args.self.now.kind.now) _ _ _ _ _ _ _ c.args.quotient.now c.divide_even.new.quotient (Err c.in_err-divide_even.field-0.0) top c.row-lead.ensures.codes at c.in_err-divide_even.ensures))

pub returns-in_err-take_multiple : goal.returns-in_err-take_multiple
returns-in_err-take_multiple g c =
    let at = c.row_start-start.ensures.place in
    let fits : c.row_start-start.result + c.args.self.now.rows.width ≤ length c.args.quotient.now = omega arith in
    let top = rw (c.new.ensures.codes, c.new.ensures.width) at c.row-top.ensures.codes in
    let p = err_from_is_err_and c.from_residual-in_err-take_multiple.result c.from_residual-in_err-take_multiple.ensures.1 in
    rw (p.1, p.2)
    (cut_no_room _ _ _ _ _ _ _ _ _ at fits c.divide_even.auto.quotient
    (even_rows (g.K.Coefficients.arithmetic c.args.self.now.kind.now) _ _ _ _ _ _ _ c.args.quotient.now c.divide_even.new.quotient (Ok tt) top c.row-lead.ensures.codes at c.in_ok-divide_even.ensures)
    _ c.in_err-take_multiple.field-0.0 c.in_err-take_multiple.ensures)

pub returns : goal.returns
returns g c =
    let at = c.row_start-start.ensures.place in
    let fits : c.row_start-start.result + c.args.self.now.rows.width ≤ length c.args.quotient.now = omega arith in
    let top = rw (c.new.ensures.codes, c.new.ensures.width) at c.row-top.ensures.codes in
    cut_done _ _ _ _ _ _ _ _ _ at fits c.divide_even.auto.quotient
    (even_rows (g.K.Coefficients.arithmetic c.args.self.now.kind.now) _ _ _ _ _ _ _ c.args.quotient.now c.divide_even.new.quotient (Ok tt) top c.row-lead.ensures.codes at c.in_ok-divide_even.ensures)
    _ c.in_ok-take_multiple.ensures
