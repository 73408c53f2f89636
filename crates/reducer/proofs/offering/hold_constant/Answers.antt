use Rattle.reducer.proofs.Sounds.{held_few}
use Rattle.reducer.proofs.Accepting.{constant_settled, constant_void}
use Rattle.reducer.proofs.offering.hold_constant.Goals as goal

pub returns-in-Ok : goal.returns-in-Ok
returns-in-Ok g c a b fit =
    let j = c.args.job.now in
    let image = c.args.image.now in
    let few = held_few j fit.standing in
    constant_settled (g.met.K.Coefficients.laws c.args.kind.now) a b j c.args.point image.degree image.rows.divisor image.rows.left image.rows.right fit.standing c.requires.room fit.gathers fit.fresh fit.low fit.images j.stored few c.args.kept c.requires.kept
    c.requires.constant c.settle.new.job c.settle.result c.in-Ok.reduction c.in-Ok.ensures c.settle.ensures.state c.settle.ensures.standing c.settle.ensures.reduction c.settle.ensures.answer

pub returns-in-Err : goal.returns-in-Err
returns-in-Err g c a b fit =
    let j = c.args.job.now in
    let image = c.args.image.now in
    let few = held_few j fit.standing in
    constant_void (g.met.K.Coefficients.laws c.args.kind.now) a b j c.args.point image.degree image.rows.divisor image.rows.left image.rows.right fit.standing c.requires.room fit.gathers fit.fresh fit.low fit.images j.stored few c.args.kept c.requires.kept
    c.requires.constant c.make_void.new.job c.in-Err.fault c.make_void.result c.in-Err.ensures c.make_void.ensures.answer c.make_void.ensures.state c.make_void.ensures.standing
