use Rattle.bivariate.proofs.Width.{degrees}
use Rattle.bivariate.proofs.degrees_stand.Goals as goal

pub returns : goal.returns
returns g c = degrees g.S.Scalar.field
