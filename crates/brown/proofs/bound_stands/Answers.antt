use Rattle.brown.proofs.Bound.{bound}
use Rattle.brown.proofs.bound_stands.Goals as goal

pub returns : goal.returns
returns g c = bound g.S.Scalar.field
