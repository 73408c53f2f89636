use Rattle.brown.proofs.Interpolation.{interpolation}
use Rattle.brown.proofs.interpolation_stands.Goals as goal

pub returns : goal.returns
returns g c = interpolation g.S.Scalar.field
