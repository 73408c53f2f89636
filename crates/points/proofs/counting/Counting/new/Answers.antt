use Rattle.std.proofs.Common.{◌≡◌, min, arith}
use Rattle.std.proofs.Math.Nat.{min-eq_left}
use Rattle.points.proofs.Lists.{in_places}
use Rattle.points.proofs.counting.Counting.new.Goals as goal

pub returns-clause-places : goal.returns-clause-places
returns-clause-places g c =
    let n = g.K.Listed.count c.args.kind in
    let all : min n n ≡ n = min-eq_left (omega arith) in
    rw (c.count.ensures, all) (in_places _ _)
