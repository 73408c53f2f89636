use Rattle.brown.proofs.Test.{test}
use Rattle.brown.proofs.test_stands.Goals as goal

pub returns : goal.returns
returns g c = test g.S.Scalar.field
