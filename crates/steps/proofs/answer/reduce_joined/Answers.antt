use Rattle.std.proofs.Common.{[], arith}
use Rattle.std.proofs.lemmas.Result.{err_from_is_err_and}
use Rattle.steps.proofs.Reading.{joined_content_refused, left_refused, right_refused, closed}
use Rattle.steps.proofs.answer.reduce_joined.Goals as goal

pub returns-in_err-take_content : goal.returns-in_err-take_content
returns-in_err-take_content g c =
    let p = err_from_is_err_and c.from_residual.result c.from_residual.ensures.1 in
    rw (p.1, p.2) λ a b ha hb la lb wk inside answer.
    joined_content_refused a b c.args.workings.now wk c.args.joined.now inside answer (g.met.K.Coefficients.laws c.args.kind.now) _ c.take_content.new.content c.take_content.new.part _ c.in_err-take_content.ensures

pub returns-in_err-left : goal.returns-in_err-left
returns-in_err-left g c =
    let p = err_from_is_err_and c.from_residual-in_err-left.result c.from_residual-in_err-left.ensures.1 in
    rw (p.1, p.2) λ a b ha hb la lb wk inside answer.
    left_refused a b c.args.workings.now wk c.args.joined.now inside answer [] c.take_content.new.content c.take_content.new.part c.lead_row.new.row c.in_ok-take_content.field-0 c.in_ok-take_content.ensures c.lead_row.ensures
    (g.met.K.Coefficients.laws c.args.kind.now) c.in_err-left.ensures.0 _ c.in_err-left.ensures.1

pub returns-in_err-right : goal.returns-in_err-right
returns-in_err-right g c =
    let p = err_from_is_err_and c.from_residual-in_err-right.result c.from_residual-in_err-right.ensures.1 in
    rw (p.1, p.2) λ a b ha hb la lb wk inside answer.
    right_refused a b c.args.workings.now wk c.args.joined.now inside answer [] c.take_content.new.content c.take_content.new.part c.lead_row.new.row c.in_ok-take_content.field-0 c.in_ok-take_content.ensures c.lead_row.ensures
    (g.met.K.Coefficients.laws c.args.kind.now) c.in_err-right.ensures.0 _ c.in_err-right.ensures.1

pub returns : goal.returns
returns g c a b ha hb la lb wk inside answer =
    closed a b c.args.workings.now wk c.args.joined.now inside answer [] c.take_content.new.content c.take_content.new.part c.lead_row.new.row c.in_ok-take_content.field-0 c.in_ok-take_content.ensures c.lead_row.ensures
    c.in_ok-left.left c.in_ok-right.right c.in_ok-left.ensures.1 c.in_ok-right.ensures.1 c.narrow.result c.narrow-2.result c.narrow-3.result c.narrow.ensures c.narrow-2.ensures c.narrow-3.ensures
    (omega arith) (omega arith) (omega arith) ha hb la lb c.finish.result c.finish.ensures
