use Rattle.polynomials.proofs.Powers.{PowersTo}
use Rattle.polynomials.proofs.evaluate.fill_powers.Given as goal

abbrev pub invariant-loop-slot : goal.invariant-loop-slot
invariant-loop-slot g l = PowersTo (g.K.Coefficients.arithmetic l.kind) l.point l.powers l.slot-index l.power
