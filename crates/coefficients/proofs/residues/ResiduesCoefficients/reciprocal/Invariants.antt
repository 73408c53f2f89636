use Rattle.coefficients.proofs.Euclid.{Going}
use Rattle.coefficients.proofs.residues.ResiduesCoefficients.reciprocal.Given as goal

abbrev pub invariant-loop-r1 : goal.invariant-loop-r1
invariant-loop-r1 l = Going l.self.modulus l.a l.r0 l.r1 l.s0 l.s1

abbrev pub decreases-loop-r1 : goal.decreases-loop-r1
decreases-loop-r1 l = l.r1
