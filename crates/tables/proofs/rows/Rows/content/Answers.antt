use Rattle.std.proofs.Common.{◌+◌, arith}
use Rattle.std.proofs.lemmas.Result.{err_from_is_err_and}
use Rattle.tables.proofs.Contents.{gathered_none, gathered_more, gathered_refused, gathered_all, gathered_one}
use Rattle.tables.proofs.rows.Rows.content.Goals as goal

pub loop-i-init : goal.loop-i-init
loop-i-init g c = gathered_none (g.met.K.Coefficients.laws c.args.kind.now) _ _ _ (λ i lt. c.clear.ensures i (omega arith))

pub returns-in_err-n : goal.returns-in_err-n
returns-in_err-n g c =
    let p = err_from_is_err_and c.from_residual.result c.from_residual.ensures.1 in
    let (e, told) = rw c.row.ensures.codes at c.in_err-n.ensures in
    rw (p.1, p.2) (gathered_refused _ _ _ _ e _ _ _ _ c.loop-i.invariant told)

pub loop-i-preserved : goal.loop-i-preserved
loop-i-preserved g c =
    let (e, told) = rw c.row.ensures.codes at c.in_ok-n.ensures in
    gathered_more _ _ _ _ e _ _ _ _ c.loop-i.invariant told

pub returns-then-n-eq1 : goal.returns-then-n-eq1
returns-then-n-eq1 g c =
    let (e, told) = rw c.row.ensures.codes at c.in_ok-n.ensures in
    gathered_one _ _ _ c.args.self.now.sixteen _ (c.loop-i.i + 1) _ (gathered_more _ _ _ _ e _ _ _ _ c.loop-i.invariant told) (omega arith) c.if-n-eq1.true

pub returns : goal.returns
returns g c = gathered_all _ _ _ c.args.self.now.sixteen _ _ _ c.loop-i.invariant (omega arith)
