use Rattle.std.proofs.Common.{◌+◌, ◌≤◌, length, Ok, Err, refl, arith}
use Rattle.std.proofs.lemmas.Result.{err_from_is_err_and}
use Rattle.polynomials.specs.Rows.{cut_row}
use Rattle.tables.proofs.Evenly.{even_rows, divided_more, divided_refused, divided_all}
use Rattle.tables.proofs.content.divide_rows.Goals as goal

pub loop-i-preserved : goal.loop-i-preserved
loop-i-preserved g c =
    let at = c.row_start-start.ensures.place in
    let fits : c.row_start-start.result + c.args.rows.now.width ≤ length c.loop-i.quotient = omega arith in
    divided_more _ _ _ _ _ _ _ _ _ at fits c.divide_even.auto.quotient c.loop-i.invariant
    (even_rows (g.K.Coefficients.arithmetic c.args.kind.now) _ _ _ _ _ _ _ c.loop-i.quotient c.divide_even.new.quotient (Ok tt) (c.each.ensures.codes c.loop-i.i _ (omega arith)) refl at c.in_ok-divide_even.ensures)

pub returns-in_err-divide_even : goal.returns-in_err-divide_even
returns-in_err-divide_even g c =
    let at = c.row_start-start.ensures.place in
    let w = c.args.rows.now.width in
    let fits : c.row_start-start.result + c.args.rows.now.width ≤ length c.loop-i.quotient = omega arith in
    let p = err_from_is_err_and c.from_residual.result c.from_residual.ensures.1 in
    rw (p.1, p.2)
    (divided_refused _ _ _ _ _ _ _ _ _ at fits c.divide_even.auto.quotient c.loop-i.invariant _
    (even_rows (g.K.Coefficients.arithmetic c.args.kind.now) w c.loop-i.i _ _ (cut_row w c.args.rows.now.codes.now c.loop-i.i) c.args.by.now c.args.by.now c.loop-i.quotient c.divide_even.new.quotient (Err c.in_err-divide_even.field-0.0) (c.each.ensures.codes c.loop-i.i _ (omega arith)) refl at c.in_err-divide_even.ensures))

pub returns : goal.returns
returns g c = divided_all _ _ _ _ _ _ c.args.rows.now.sixteen (omega arith) (omega arith) c.loop-i.invariant
