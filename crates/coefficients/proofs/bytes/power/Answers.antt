use Rattle.std.proofs.Common.{refl}
use Rattle.coefficients.specs.Byte.{times, x_times}
use Rattle.coefficients.specs.Tables.{power_at, powers_from}
use Rattle.coefficients.proofs.bytes.power.Goals as goal

pub returns : goal.returns
unfolding times x_times
returns c = power_at (powers_from 510 1) refl c.args.n c.requires
