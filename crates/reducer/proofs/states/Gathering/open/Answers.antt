use Rattle.reducer.proofs.Calls.{ahead}
use Rattle.reducer.proofs.states.Gathering.open.Goals as goal

pub returns-clause-law : goal.returns-clause-law
returns-clause-law g c = ahead (g.K.Coefficients.arithmetic c.args.kind) c.args.a.now c.args.b.now
