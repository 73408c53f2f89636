use Rattle.std.proofs.Common.{rules}
use Rattle.reducer.proofs.Collecting.{wrote}
use Rattle.reducer.proofs.states.Closed.collect.Goals as goal

pub returns : goal.returns
returns g c a b sound =
    rw (c.copy_from_slice.ensures.after, c.copy_from_slice-2.ensures.after, c.copy_from_slice-3.ensures.after)
    (wrote (g.K.Coefficients.arithmetic c.args.self.now.kind) a b c.args.self.now.job c.args.divisor.now c.args.cofactor_a.now c.args.cofactor_b.now (g.met.K.Coefficients.laws c.args.self.now.kind) c.in-Settled.is sound
    c.in_ok-check_length.ensures c.in_ok-check_length-2.ensures c.in_ok-check_length-3.ensures (search rules) (search rules) (search rules))
