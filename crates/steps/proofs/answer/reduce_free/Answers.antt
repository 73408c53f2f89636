use Rattle.steps.proofs.Reading.{unit_in, free_parts}
use Rattle.steps.proofs.answer.reduce_free.Goals as goal

pub returns : goal.returns
returns g c a b ha hb la lb wk free =
    let K = g.K.Coefficients.arithmetic c.args.kind.now in
    let laws = g.met.K.Coefficients.laws c.args.kind.now in
    c.finish.ensures a b ha hb la lb wk (record { divisor_in = unit_in K c.zero-one.result c.one.result c.zero-one.ensures c.one.ensures laws; left_in = wk.A_in; right_in = wk.B_in })
    (λ lw only p. free_parts K c.zero-one.result c.one.result c.zero-one.ensures c.one.ensures lw only p c.args.workings.now (wk.same lw only p) (free lw only p))
