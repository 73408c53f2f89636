use Rattle.std.proofs.Common.{length}
use Rattle.std.specs.Iterator.Adapters.{zip_first, zip_second}
use Rattle.std.specs.Slice.Iter.{iter_rest, chunks_exact_rest, chunks_exact_size}
use Rattle.tables.proofs.Newton.{JoinedTo}
use Rattle.tables.proofs.Pairs.{Left}
use Rattle.tables.proofs.join.join.Given as goal

abbrev pub invariant-loop-point : goal.invariant-loop-point
invariant-loop-point g l =
    (goal.iterator-loop-point g).can_next l.point-iterator
    × (goal.iterator-loop-point g).is_finite l.point-iterator
    × Left l.points l.rows (iter_rest (zip_first l.point-iterator)) (chunks_exact_rest (zip_second l.point-iterator)) (chunks_exact_size (zip_second l.point-iterator)) (length l.yielded)
    × JoinedTo (g.K.Coefficients.arithmetic l.kind) l.points l.rows l.master l.joined (length l.yielded)
