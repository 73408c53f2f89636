use Rattle.algebra.proofs.OneUnknown.{gcd}
use Rattle.algebra.proofs.gcd_stands.Goals as goal

pub returns : goal.returns
returns g c = gcd g.S.Scalar.field
