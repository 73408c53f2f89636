use Rattle.std.proofs.Common.{arith}
use Rattle.coefficients.proofs.PrimeFields.{prime_field, field_prime}
use Rattle.coefficients.proofs.residues.Residues.new.Goals as goal

pub returns-clause-field : goal.returns-clause-field
returns-clause-field c = (prime_field c.args.modulus, field_prime c.args.modulus (omega arith))
