use Rattle.algebra.proofs.OneUnknown.{evaluation}
use Rattle.algebra.proofs.evaluation_stands.Goals as goal

pub returns : goal.returns
returns g c = evaluation g.S.Scalar.field
