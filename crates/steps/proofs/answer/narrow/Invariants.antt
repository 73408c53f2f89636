use Rattle.steps.proofs.Reading.{Copied}
use Rattle.steps.proofs.answer.narrow.Given as goal

abbrev pub invariant-loop-i : goal.invariant-loop-i
invariant-loop-i l = Copied l.rows l.table l.i
