use Rattle.std.proofs.lemmas.Result.{err_from_is_err_and}
use Rattle.steps.proofs.Deciding.{failing, passing, blocking}
use Rattle.steps.proofs.verdict.decide.Goals as goal

pub returns-in_err-joined : goal.returns-in_err-joined
returns-in_err-joined g c =
    let p = err_from_is_err_and c.from_residual.result c.from_residual.ensures.1 in
    rw (p.1, p.2) λ a b k enough. c.in_err-joined.ensures a b k enough.gathered

pub returns-then-not-passes : goal.returns-then-not-passes
returns-then-not-passes g c =
    failing c.args.workings.now c.args.images.now.points.now c.args.images.now.divisors.now c.args.images.now.lefts.now c.args.images.now.rights.now c.in_ok-joined.joined c.in_ok-joined.ensures c.if-not-passes.ensures

pub returns-in_err-reduce_joined : goal.returns-in_err-reduce_joined
returns-in_err-reduce_joined g c =
    let p = err_from_is_err_and c.from_residual-in_err-reduce_joined.result c.from_residual-in_err-reduce_joined.ensures.1 in
    rw (p.1, p.2) (blocking c.args.workings.now c.args.images.now.points.now c.args.images.now.divisors.now c.args.images.now.lefts.now c.args.images.now.rights.now c.in_ok-joined.joined c.in_ok-joined.ensures c.if-not-passes.ensures _ c.in_err-reduce_joined.ensures)

pub returns : goal.returns
returns g c =
    passing c.args.workings.now c.args.images.now.points.now c.args.images.now.divisors.now c.args.images.now.lefts.now c.args.images.now.rights.now c.in_ok-joined.joined c.in_ok-joined.ensures c.if-not-passes.ensures c.in_ok-reduce_joined.field-0 c.in_ok-reduce_joined.ensures
