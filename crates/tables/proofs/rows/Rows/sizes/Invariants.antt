use Rattle.std.proofs.Common.{◌≡◌, ℕ, ◌<◌, length, get_or}
use Rattle.polynomials.specs.Rows.{Sized, cut_row}
use Rattle.tables.proofs.rows.Rows.sizes.Given as goal

abbrev pub invariant-loop-i : goal.invariant-loop-i
invariant-loop-i g l = record {
  long : length l.sizes ≡ 16;
  sized : (k : ℕ) → k < l.i → Sized (g.K.Coefficients.arithmetic l.kind) (cut_row l.self.width l.self.codes.now k) (get_or l.sizes k 0);
}
