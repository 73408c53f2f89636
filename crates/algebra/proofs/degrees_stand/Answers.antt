use Rattle.algebra.proofs.OneUnknown.{degrees}
use Rattle.algebra.proofs.degrees_stand.Goals as goal

pub returns : goal.returns
returns g c = degrees g.S.Scalar.field
