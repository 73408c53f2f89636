use Rattle.std.proofs.Common.{refl, arith}
use Rattle.points.proofs.Lists.{counted_step}
use Rattle.points.proofs.counting.CountingSource.draw.Goals as goal

pub returns : goal.returns
returns g c =
    let steps = c.in_ok-place.ensures.steps in
    counted_step _ _ _ _ _ _ _ _ (omega arith) steps.1.2 steps.0 refl (rw steps.1.1 at c.nth.ensures)
