use Rattle.std.proofs.lemmas.Result.{err_from_is_err_and}
use Rattle.steps.proofs.Reading.{share_refused, divisor_room, left_room, right_room, finished}
use Rattle.steps.proofs.answer.finish.Goals as goal

pub returns-in_err-contents : goal.returns-in_err-contents
returns-in_err-contents g c =
    let p = err_from_is_err_and c.from_residual.result c.from_residual.ensures.1 in
    rw (p.1, p.2) λ a b ha hb la lb wk inside parts. share_refused a b c.args.workings.now wk _ c.in_err-contents.ensures

pub returns-in_err-enlarge : goal.returns-in_err-enlarge
returns-in_err-enlarge g c =
    let p = err_from_is_err_and c.from_residual-in_err-enlarge.result c.from_residual-in_err-enlarge.ensures.1 in
    rw (p.1, p.2) λ a b ha hb la lb wk inside parts. divisor_room a b c.args.workings.now wk c.in_ok-contents.field-0 c.in_ok-contents.ensures c.args.parts.now inside parts _ c.in_err-enlarge.ensures

pub returns-in_err-enlarge-2 : goal.returns-in_err-enlarge-2
returns-in_err-enlarge-2 g c =
    let p = err_from_is_err_and c.from_residual-in_err-enlarge-2.result c.from_residual-in_err-enlarge-2.ensures.1 in
    rw (p.1, p.2) λ a b ha hb la lb wk inside parts. left_room a b c.args.workings.now wk c.in_ok-contents.field-0 c.in_ok-contents.ensures c.args.parts.now inside parts _ c.in_err-enlarge-2.ensures

pub returns-in_err-enlarge-3 : goal.returns-in_err-enlarge-3
returns-in_err-enlarge-3 g c =
    let p = err_from_is_err_and c.from_residual-in_err-enlarge-3.result c.from_residual-in_err-enlarge-3.ensures.1 in
    rw (p.1, p.2) λ a b ha hb la lb wk inside parts. right_room a b c.args.workings.now wk c.in_ok-contents.field-0 c.in_ok-contents.ensures c.args.parts.now inside parts _ c.in_err-enlarge-3.ensures

pub returns : goal.returns
returns g c a b ha hb la lb wk inside parts =
    finished a b c.args.workings.now wk c.in_ok-contents.field-0 c.in_ok-contents.ensures c.args.parts.now inside parts c.in_ok-enlarge.field-0 c.in_ok-enlarge-2.field-0 c.in_ok-enlarge-3.field-0 c.in_ok-enlarge.ensures c.in_ok-enlarge-2.ensures c.in_ok-enlarge-3.ensures
