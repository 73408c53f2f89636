use Rattle.brown.proofs.Images.{images}
use Rattle.brown.proofs.images_stand.Goals as goal

pub returns : goal.returns
returns g c = images g.S.Scalar.field
