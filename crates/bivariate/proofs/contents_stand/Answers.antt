use Rattle.bivariate.proofs.Contents.{contents}
use Rattle.bivariate.proofs.contents_stand.Goals as goal

pub returns : goal.returns
returns g c = contents g.S.Scalar.field
