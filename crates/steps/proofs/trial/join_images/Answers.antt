use Rattle.std.proofs.Common.{arith}
use Rattle.std.proofs.lemmas.Result.{err_from_is_err_and}
use Rattle.steps.specs.declared.factored.Factored.{Factored}
use Rattle.steps.proofs.Trying.{rows_inside, joins, join_refused}
use Rattle.steps.proofs.trial.join_images.Goals as goal

pub returns-in_err-join : goal.returns-in_err-join
returns-in_err-join g c =
    let p = err_from_is_err_and c.from_residual.result c.from_residual.ensures.1 in
    rw (p.1, p.2) λ a b k held.
    let K = g.K.Coefficients.arithmetic c.args.kind.now in
    join_refused K c.args.images.now.points.now c.args.images.now.divisors.now _ _ c.in_err-join.ensures held.inside held.distinct
    (rows_inside K c.args.images.now.divisors.now _ c.args.images.now.divisors_long (λ i lt. (held.images i lt).divisor_in))

pub returns-in_err-join-2 : goal.returns-in_err-join-2
returns-in_err-join-2 g c =
    let p = err_from_is_err_and c.from_residual-in_err-join-2.result c.from_residual-in_err-join-2.ensures.1 in
    rw (p.1, p.2) λ a b k held.
    let K = g.K.Coefficients.arithmetic c.args.kind.now in
    join_refused K c.args.images.now.points.now c.args.images.now.lefts.now _ _ c.in_err-join-2.ensures held.inside held.distinct
    (rows_inside K c.args.images.now.lefts.now _ c.args.images.now.lefts_long (λ i lt. (held.images i lt).left_in))

pub returns-in_err-join-3 : goal.returns-in_err-join-3
returns-in_err-join-3 g c =
    let p = err_from_is_err_and c.from_residual-in_err-join-3.result c.from_residual-in_err-join-3.ensures.1 in
    rw (p.1, p.2) λ a b k held.
    let K = g.K.Coefficients.arithmetic c.args.kind.now in
    join_refused K c.args.images.now.points.now c.args.images.now.rights.now _ _ c.in_err-join-3.ensures held.inside held.distinct
    (rows_inside K c.args.images.now.rights.now _ c.args.images.now.rights_long (λ i lt. (held.images i lt).right_in))

pub returns : goal.returns
returns g c =
    let i = c.args.images.now in
    let j : Factored 512 = record { divisor = c.join.new.joined; left = c.join-2.new.joined; right = c.join-3.new.joined } in
    joins i.points.now i.divisors.now i.lefts.now i.rights.now j i.divisors_long i.lefts_long i.rights_long (omega arith) (omega arith) (omega arith) c.in_ok-join.ensures c.in_ok-join-2.ensures c.in_ok-join-3.ensures
