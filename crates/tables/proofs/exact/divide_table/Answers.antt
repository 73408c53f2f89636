use Rattle.std.proofs.Common.{◌-◌, arith}
use Rattle.std.proofs.lemmas.Result.{err_from_is_err_and}
use Rattle.tables.proofs.LongDivision.{division_none, division_more, division_refused, division_even, division_uneven, division_by_zero}
use Rattle.tables.proofs.exact.divide_table.Goals as goal

pub returns-then-count-eq0 : goal.returns-then-count-eq0
returns-then-count-eq0 g c =
    division_by_zero (g.met.K.Coefficients.laws c.args.kind.now) _ _ _ _ _ c.args.by.now.sixteen c.zero.ensures (λ i lt. c.clear.ensures i (omega arith)) (rw c.if-count-eq0.true at c.size_x-count.ensures.codes)

pub loop-shift-init : goal.loop-shift-init
loop-shift-init g c =
    let s = c.size_x-count.ensures.codes in
    division_none _ _ _ _ _ c.requires.rest c.args.by.now.sixteen (omega arith) s (g.met.K.Coefficients.laws c.args.kind.now) _ (λ i lt. c.clear.ensures i (omega arith)) _ (let le = s.within in omega arith)

pub loop-shift-preserved : goal.loop-shift-preserved
loop-shift-preserved g c =
    division_more _ _ _ _ _ c.requires.rest c.args.by.now.sixteen (omega arith) c.size_x-count.ensures.codes _ _ (c.loop-shift.shift - 1) _ (omega arith) c.loop-shift.invariant _ _ _ (omega arith) c.in_ok-cut_top.ensures

pub returns-in_err-cut_top : goal.returns-in_err-cut_top
returns-in_err-cut_top g c =
    let p = err_from_is_err_and c.from_residual.result c.from_residual.ensures.1 in
    rw (p.1, p.2)
    (division_refused _ _ _ _ _ c.requires.rest c.args.by.now.sixteen (omega arith) c.size_x-count.ensures.codes _ _ (c.loop-shift.shift - 1) _ (omega arith) c.loop-shift.invariant _ _ c.in_err-cut_top.field-0.0 c.in_err-cut_top.ensures)

pub returns-then-size_x-eq0 : goal.returns-then-size_x-eq0
returns-then-size_x-eq0 g c =
    division_even _ _ _ _ _ c.requires.rest c.args.by.now.sixteen (omega arith) c.size_x-count.ensures.codes _ _ _ _ (omega arith) (omega arith) (rw (c.new.ensures.codes, c.new.ensures.width) at c.size_x.ensures.codes) c.loop-shift.invariant c.if-size_x-eq0.true

pub returns-else-size_x-eq0 : goal.returns-else-size_x-eq0
returns-else-size_x-eq0 g c =
    division_uneven _ _ _ _ _ c.requires.rest c.args.by.now.sixteen (omega arith) c.size_x-count.ensures.codes _ _ _ _ (omega arith) (omega arith) (rw (c.new.ensures.codes, c.new.ensures.width) at c.size_x.ensures.codes) c.loop-shift.invariant c.if-size_x-eq0.false
