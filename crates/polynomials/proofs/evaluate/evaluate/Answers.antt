use Rattle.std.proofs.Common.{arith}
use Rattle.polynomials.proofs.evaluate.evaluate.Goals as goal

pub returns : goal.returns
returns g c =
    let row = c.in_ok-check_codes.ensures in
    let point = c.in_ok-check_codes-2.ensures 0 (omega arith) in
    let value = c.horner.ensures row point in
    (row, point, value.0, value.1)
