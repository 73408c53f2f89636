use Rattle.std.proofs.Common.{◌≡◌, ◌*◌, ◌%◌, ◌<◌}
use Rattle.std.specs.Iterator.Adapters.{zip_first, zip_second}
use Rattle.std.specs.Slice.Iter.{iter_rest}
use Rattle.coefficients.specs.Dot.{dot_of}
use Rattle.coefficients.specs.Residue.{modulo}
use Rattle.coefficients.proofs.residues.ResiduesCoefficients.dot.Given as goal

abbrev pub invariant-loop-x : goal.invariant-loop-x
invariant-loop-x l =
    let p = l.self.modulus in
    let rest = dot_of (modulo p) (iter_rest (zip_first l.x-iterator)) (iter_rest (zip_second l.x-iterator)) in
    record { kept : l.total < p * p; whole : (modulo p).sum (l.total % p) rest ≡ dot_of (modulo p) l.xs l.ys }
