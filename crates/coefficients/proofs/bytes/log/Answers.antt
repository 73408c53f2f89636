use Rattle.std.proofs.Common.{refl}
use Rattle.coefficients.specs.Byte.{times, x_times}
use Rattle.coefficients.specs.Tables.{log_at, powers_from, logs_from}
use Rattle.coefficients.proofs.bytes.log.Goals as goal

pub returns : goal.returns
unfolding times x_times
returns c =
    let xs = powers_from 255 1 in
    let both = log_at xs (logs_from xs 256 0) refl refl c.args.a c.requires in
    record { small = both.0; back = both.1 }
