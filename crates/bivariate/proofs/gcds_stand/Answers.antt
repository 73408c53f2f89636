use Rattle.bivariate.proofs.Gcds.{gcds}
use Rattle.bivariate.proofs.gcds_stand.Goals as goal

pub returns : goal.returns
returns g c = gcds g.S.Scalar.field
