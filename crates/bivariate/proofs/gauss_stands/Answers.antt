use Rattle.bivariate.proofs.Contents.{gauss}
use Rattle.bivariate.proofs.gauss_stands.Goals as goal

pub returns : goal.returns
returns g c = gauss g.S.Scalar.field
