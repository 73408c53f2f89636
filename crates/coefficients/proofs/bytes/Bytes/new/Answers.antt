use Rattle.coefficients.specs.ByteLaws.{byte_field}
use Rattle.coefficients.proofs.bytes.Bytes.new.Goals as goal

pub returns : goal.returns
returns c = record { field = byte_field }
