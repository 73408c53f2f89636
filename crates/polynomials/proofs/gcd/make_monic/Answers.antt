use Rattle.std.proofs.Common.{◌≡◌, ℕ, length, subst, arith}
use Rattle.polynomials.specs.Rows.{Sized}
use Rattle.polynomials.specs.Steps.{Inverts}
use Rattle.polynomials.proofs.Common.{scaled_inside, scaled_sized, scaled_normal, zero_normal}
use Rattle.polynomials.proofs.gcd.make_monic.Goals as goal

pub returns-then-n-eq0 : goal.returns-then-n-eq0
returns-then-n-eq0 g c h =
    let s = subst (λ (n : ℕ). Sized (g.K.Coefficients.arithmetic c.args.kind.now) c.args.row.now n) c.if-n-eq0.true c.size-n.ensures in
    (h, s, zero_normal (g.met.K.Coefficients.laws c.args.kind.now) c.args.row.now h s)

pub returns : goal.returns
returns g c h =
    let lw = g.met.K.Coefficients.laws c.args.kind.now in
    let row = c.args.row.now in
    let n = c.size-n.result in
    let i = c.in_ok-inverse.inverse in
    let iv : Inverts (g.K.Coefficients.arithmetic c.args.kind.now) row n i = let (lead_in, inside, is) = c.in_ok-inverse.ensures in record { some = omega arith; lead_in = lead_in; inside = inside; is = is } in
    let len : length c.scale.new.row ≡ length row = omega arith in (
      scaled_inside lw row c.scale.new.row n i h c.size-n.ensures iv len c.scale.ensures,
      scaled_sized lw row c.scale.new.row n i h c.size-n.ensures iv len c.scale.ensures,
      scaled_normal lw row c.scale.new.row n i h c.size-n.ensures iv len c.scale.ensures,
    )
