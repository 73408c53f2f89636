use Rattle.points.proofs.Lists.{counted_left}
use Rattle.points.proofs.counting.CountingSource.any_waiting.Goals as goal

pub returns : goal.returns
returns g c = rw (c.min.ensures, c.count.ensures) (counted_left _ _ _)
