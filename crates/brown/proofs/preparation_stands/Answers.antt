use Rattle.brown.proofs.Preparation.{preparation}
use Rattle.brown.proofs.preparation_stands.Goals as goal

pub returns : goal.returns
returns g c = preparation g.S.Scalar.field
