use Rattle.std.proofs.Common.{ℕ, ◌<◌, ◌≤◌}
use Rattle.polynomials.specs.Rows.{cut_row}
use Rattle.tables.specs.Degrees.{ZeroRow}
use Rattle.tables.proofs.rows.Rows.size_x.Given as goal

abbrev pub invariant-loop-i : goal.invariant-loop-i
invariant-loop-i g l = (k : ℕ) → l.i ≤ k → k < 16 → ZeroRow (g.K.Coefficients.arithmetic l.kind) (cut_row l.self.width l.self.codes.now k)
