use Rattle.algebra.proofs.OneUnknown.{division}
use Rattle.algebra.proofs.division_stands.Goals as goal

pub returns : goal.returns
returns g c = division g.S.Scalar.field
