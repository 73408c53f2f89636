use Rattle.std.proofs.Common.{arith}
use Rattle.tables.proofs.Growing.{grown}
use Rattle.tables.proofs.join.grow.Goals as goal

pub returns : goal.returns
returns g c = grown (g.met.K.Coefficients.laws c.args.kind.now) c.args.master.now c.args.point c.loop-code.master c.loop-code.code-index c.loop-code.below (omega arith) (omega arith) c.loop-code.invariant
