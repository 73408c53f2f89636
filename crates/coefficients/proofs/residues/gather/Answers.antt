use Rattle.coefficients.proofs.Late.{late_in}
use Rattle.coefficients.proofs.residues.gather.Goals as goal

pub returns-then-y-modulus-clause-same : goal.returns-then-y-modulus-clause-same
returns-then-y-modulus-clause-same c = late_in c.args.modulus c.requires.low c.args.total c.args.x c.args.y _ c.if-x-modulus.true c.if-y-modulus.true c.reduced.ensures
