use Rattle.std.proofs.Common.{◌+◌, ◌-◌, ◌*◌, ◌∙◌, ap, take, arith}
use Rattle.steps.proofs.Reading.{copied_more}
use Rattle.steps.proofs.answer.narrow.Goals as goal

pub loop-i-preserved : goal.loop-i-preserved
loop-i-preserved c =
    let i = c.loop-i.i in
    let view = c.new.ensures in
    let half = c.copy_from_slice.ensures.after ∙ ap (take 16) (rw (view.codes, view.width) at c.each.ensures.codes i _ (omega arith)) in
    copied_more c.args.rows.now c.loop-i.table c.copy_from_slice.new.self i ((16 * i + 16) - 16 * i) (omega arith) (omega arith) (omega arith) half c.loop-i.invariant
