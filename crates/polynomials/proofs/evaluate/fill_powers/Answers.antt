use Rattle.std.proofs.Common.{arith}
use Rattle.polynomials.proofs.Powers.{powers_none, powers_more}
use Rattle.polynomials.proofs.evaluate.fill_powers.Goals as goal

pub loop-slot-init : goal.loop-slot-init
loop-slot-init g c = powers_none (g.K.Coefficients.arithmetic c.args.kind.now) c.args.point c.args.powers.now c.one-power.result c.one-power.ensures

pub loop-slot-preserved : goal.loop-slot-preserved
loop-slot-preserved g c = powers_more (g.K.Coefficients.arithmetic c.args.kind.now) c.args.point c.loop-slot.powers c.loop-slot.slot-index c.loop-slot.power c.mul-power.result (omega arith) c.mul-power.ensures c.loop-slot.invariant
