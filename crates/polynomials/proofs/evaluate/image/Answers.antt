use Rattle.std.proofs.Common.{arith}
use Rattle.polynomials.proofs.evaluate.image.Goals as goal

pub returns : goal.returns
returns g c =
    let table = c.in_ok-check_codes.ensures in
    let point = c.in_ok-check_codes-2.ensures 0 (omega arith) in
    let image = c.image_row.ensures (omega arith) table point in
    (omega arith, omega arith, table, point, image.0, image.1)
