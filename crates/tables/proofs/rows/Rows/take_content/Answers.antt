use Rattle.std.proofs.lemmas.Result.{err_from_is_err_and}
use Rattle.tables.proofs.Parting.{parting, parting_refused}
use Rattle.tables.proofs.rows.Rows.take_content.Goals as goal

pub returns-in_err-divide_rows : goal.returns-in_err-divide_rows
returns-in_err-divide_rows g c =
    let p = err_from_is_err_and c.from_residual-in_err-divide_rows.result c.from_residual-in_err-divide_rows.ensures.1 in
    rw (p.1, p.2)
    (parting_refused (g.met.K.Coefficients.laws c.args.kind.now) c.args.self.now.width c.args.self.now.codes.now c.args.part.now c.content.new.content c.divide_rows.new.quotient c.in_ok-n.n c.in_ok-n.ensures
    c.in_err-divide_rows.field-0.0 c.in_err-divide_rows.ensures)

pub returns : goal.returns
returns g c =
    parting (g.met.K.Coefficients.laws c.args.kind.now) c.args.self.now.width c.args.self.now.codes.now c.args.part.now c.content.new.content c.divide_rows.new.quotient c.in_ok-n.n c.in_ok-n.ensures c.in_ok-divide_rows.ensures
