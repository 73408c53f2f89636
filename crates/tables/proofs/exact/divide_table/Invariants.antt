use Rattle.std.proofs.Common.{◌+◌, ◌-◌}
use Rattle.tables.proofs.LongDivision.{LongDivision}
use Rattle.tables.proofs.exact.divide_table.Given as goal

abbrev pub invariant-loop-shift : goal.invariant-loop-shift
invariant-loop-shift g l = LongDivision (g.K.Coefficients.arithmetic l.kind) l.by.width l.initial.rest l.by.codes.now l.rest l.quotient l.count (l.shift + l.count - 1)
