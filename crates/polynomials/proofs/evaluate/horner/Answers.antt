use Rattle.std.proofs.Common.{rules}
use Rattle.std.proofs.iter.runs.Made.{chains}
use Rattle.polynomials.proofs.Horner.{horner_valued}
use Rattle.polynomials.proofs.evaluate.horner.Goals as goal

pub returns : goal.returns
returns g c = horner_valued (g.K.Coefficients.arithmetic c.args.kind.now) c.args.point (g.met.K.Coefficients.laws c.args.kind.now) c.args.row.now c.rfold.result (search (rules, chains))
