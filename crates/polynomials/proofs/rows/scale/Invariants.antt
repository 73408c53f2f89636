use Rattle.std.proofs.Common.{◌≡◌, ℕ, ◌<◌, ◌≤◌, get_or}
use Rattle.polynomials.proofs.rows.scale.Given as goal

abbrev pub invariant-loop-code : goal.invariant-loop-code
invariant-loop-code g l =
    ((j : ℕ) → j < l.code-index → get_or l.row j 0 ≡ (g.K.Coefficients.arithmetic l.kind).product l.by (get_or l.initial.row j 0))
    × ((j : ℕ) → l.code-index ≤ j → get_or l.row j 0 ≡ get_or l.initial.row j 0)
