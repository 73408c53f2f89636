use Rattle.method.proofs.Method.{method}
use Rattle.method.proofs.method_stands.Goals as goal

pub returns : goal.returns
returns g c = method g.S.Scalar.field
