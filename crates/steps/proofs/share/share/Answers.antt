use Rattle.std.proofs.lemmas.Result.{err_from_is_err_and}
use Rattle.steps.proofs.Sharing.{left_refused, right_refused}
use Rattle.steps.proofs.share.share.Goals as goal

pub returns-in_err-divide_even : goal.returns-in_err-divide_even
returns-in_err-divide_even g c =
    let p = err_from_is_err_and c.from_residual-in_err-divide_even.result c.from_residual-in_err-divide_even.ensures.1 in
    rw (p.1, p.2)
    (left_refused (g.met.K.Coefficients.laws c.args.kind.now) c.args.a.now c.args.b.now c.gcd_row.new.a c.gcd_row.new.b _ _ _ c.size-count.result _ c.in_ok-gcd_row.ensures c.size-count.ensures c.in_err-divide_even.ensures)

pub returns-in_err-divide_even-2 : goal.returns-in_err-divide_even-2
returns-in_err-divide_even-2 g c =
    let p = err_from_is_err_and c.from_residual-in_err-divide_even-2.result c.from_residual-in_err-divide_even-2.ensures.1 in
    rw (p.1, p.2)
    (right_refused (g.met.K.Coefficients.laws c.args.kind.now) c.args.a.now c.args.b.now c.gcd_row.new.a c.gcd_row.new.b _ _ _ c.size-count.result _ c.in_ok-gcd_row.ensures c.size-count.ensures c.in_err-divide_even-2.ensures)
