use Rattle.std.proofs.Common.{◌-◌, arith}
use Rattle.polynomials.proofs.Cutting.{dividing_none, dividing_more, divided}
use Rattle.polynomials.proofs.divide.Divisor.divide.Goals as goal

pub loop-shift-init : goal.loop-shift-init
loop-shift-init g c =
    let some = c.args.self.now.inverts.some in
    dividing_none (g.met.K.Coefficients.laws c.args.self.now.kind.now) c.args.rest.now c.args.self.now.row.now c.args.self.now.count _ (omega arith) c.clear.new.row (λ i lt. c.clear.ensures i (omega arith))

pub loop-shift-preserved : goal.loop-shift-preserved
loop-shift-preserved g c =
    let d = c.args.self.now in
    dividing_more (g.met.K.Coefficients.laws d.kind.now) d.row.now d.count d.inverse d.sized d.inverts
    c.args.rest.now c.loop-shift.rest c.cut.new.rest (c.loop-shift.shift - 1) c.loop-shift.shift c.cut.result
    (omega arith) (omega arith) (omega arith) c.cut.ensures.factor c.cut.ensures.left c.loop-shift.quotient (omega arith) c.loop-shift.invariant

pub returns : goal.returns
returns g c =
    let d = c.args.self.now in
    divided (g.met.K.Coefficients.laws d.kind.now) d.row.now d.count d.inverse d.sized d.inverts c.args.rest.now c.loop-shift.quotient c.loop-shift.rest c.loop-shift.shift (omega arith) c.loop-shift.invariant
