use Rattle.std.proofs.Common.{◌+◌, ◌-◌, rules}
use Rattle.tables.specs.Degrees.{SizedX}
use Rattle.tables.proofs.Sizes.{size_x_is}
use Rattle.tables.proofs.rows.Rows.size_x.Goals as goal

pub returns-then-size-gt0-clause-size : goal.returns-then-size-gt0-clause-size
returns-then-size-gt0-clause-size g c =
    let s : SizedX (g.K.Coefficients.arithmetic c.args.kind.now) c.args.self.now.width c.args.self.now.codes.now (c.loop-i.i - 1 + 1) = search rules in
    λ h lw. size_x_is lw _ _ _ c.args.self.now.sixteen s h

pub returns-clause-size : goal.returns-clause-size
returns-clause-size g c =
    let s : SizedX (g.K.Coefficients.arithmetic c.args.kind.now) c.args.self.now.width c.args.self.now.codes.now 0 = search rules in
    λ h lw. size_x_is lw _ _ _ c.args.self.now.sixteen s h
