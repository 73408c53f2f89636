use Rattle.std.proofs.Common.{◌<◌, arith}
use Rattle.reducer.proofs.Completing.{passed_settled, failed_overturned, blocked_void}
use Rattle.reducer.proofs.offering.hold_last.Goals as goal

pub returns-in-Ok-Some : goal.returns-in-Ok-Some
returns-in-Ok-Some g c a b t =
    let j = c.args.job.now in
    let few : j.counts.held < 31 = omega (arith, j.closes) in
    passed_settled (g.met.K.Coefficients.laws c.args.kind.now) a b j c.args.degree t c.requires.room j.stored few c.settle.new.job c.settle.result c.in-Ok-Some.reduction (rw c.in-Ok-Some.field-0-is at c.in-Ok-Some.ensures) c.settle.ensures.state c.settle.ensures.standing c.settle.ensures.reduction c.settle.ensures.answer

pub returns-in-Ok-None : goal.returns-in-Ok-None
returns-in-Ok-None g c a b t =
    let j = c.args.job.now in
    let few : j.counts.held < 31 = omega (arith, j.closes) in
    failed_overturned (g.met.K.Coefficients.laws c.args.kind.now) a b j c.args.degree t c.requires.room j.stored few c.overturn.new.job c.overturn.result (rw c.in-Ok-None.field-0-is at c.in-Ok-None.ensures) c.overturn.ensures.state c.overturn.ensures.standing c.overturn.ensures.held c.overturn.ensures.rows.workings c.overturn.ensures.answer

pub returns-in-Err : goal.returns-in-Err
returns-in-Err g c a b t =
    let j = c.args.job.now in
    let few : j.counts.held < 31 = omega (arith, j.closes) in
    blocked_void (g.met.K.Coefficients.laws c.args.kind.now) a b j c.args.degree t c.requires.room j.stored few c.make_void.new.job c.in-Err.fault c.make_void.result c.in-Err.ensures c.make_void.ensures.answer c.make_void.ensures.state c.make_void.ensures.standing
