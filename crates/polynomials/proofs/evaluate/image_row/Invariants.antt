use Rattle.std.proofs.Common.{◌≡◌, ℕ, ◌*◌, ◌<◌, get_or, drop}
use Rattle.std.specs.Iterator.Adapters.{enumerate_source, enumerate_count}
use Rattle.std.specs.Slice.Iter.{chunks_exact_rest, chunks_exact_size}
use Rattle.polynomials.specs.Rows.{row_of}
use Rattle.polynomials.specs.Steps.{Valued}
use Rattle.polynomials.proofs.evaluate.image_row.Given as goal

abbrev pub invariant-loop-i : goal.invariant-loop-i
invariant-loop-i g l = record {
  size : chunks_exact_size (enumerate_source l.i-iterator) ≡ 16;
  rest : chunks_exact_rest (enumerate_source l.i-iterator) ≡ drop (16 * enumerate_count l.i-iterator) l.table;
  values : (k : ℕ) → k < enumerate_count l.i-iterator → Valued (g.K.Coefficients.arithmetic l.kind) (row_of l.table k) l.point (get_or l.row k 0);
}
