use Rattle.std.proofs.Common.{◌≡◌, ℕ, List, sym, subst, arith}
use Rattle.std.proofs.lemmas.Result.{err_from_is_err_and}
use Rattle.polynomials.specs.Rows.{Inside, Sized}
use Rattle.polynomials.proofs.Common.{Euclid, euclid_more, euclid_end}
use Rattle.polynomials.proofs.Inverse.{stuck}
use Rattle.polynomials.proofs.gcd.gcd_row.Goals as goal

pub returns-in_err-reduce_row : goal.returns-in_err-reduce_row
returns-in_err-reduce_row g c =
    let K = g.K.Coefficients.arithmetic c.args.kind.now in
    let p = err_from_is_err_and c.from_residual.result c.from_residual.ensures.1 in
    let inv = c.loop-n.invariant in
    let told = c.in_err-reduce_row.ensures in
    rw (p.1, p.2) λ ha hb.
    let i = inv.inside ha hb in
    (subst (λ (l : List ℕ). Inside K l) (sym told.1) i.0, i.1, stuck K c.loop-n.b c.loop-n.n (omega arith) inv.sized i.1 _ told.0)

pub loop-n-preserved : goal.loop-n-preserved
loop-n-preserved g c =
    let K = g.K.Coefficients.arithmetic c.args.kind.now in
    let s = subst (λ (l : List ℕ). Sized K l c.size-n-in-loop-n.result) c.swap_with_slice.ensures.other_after c.size-n-in-loop-n.ensures in
    rw (c.swap_with_slice.ensures.after, c.swap_with_slice.ensures.other_after)
    (euclid_more K c.args.a.now c.args.b.now c.loop-n.a c.loop-n.b c.reduce_row.new.rest c.loop-n.n c.size-n-in-loop-n.result
    (omega arith) c.loop-n.invariant c.in_ok-reduce_row.ensures.0 s)

pub returns : goal.returns
returns g c =
    let K = g.K.Coefficients.arithmetic c.args.kind.now in
    let e : c.loop-n.n ≡ 0 = omega arith in
    euclid_end K c.args.a.now c.args.b.now c.loop-n.a c.loop-n.b c.make_monic.new.row c.make_monic.result
    (subst (λ (n : ℕ). Euclid K c.args.a.now c.args.b.now c.loop-n.a c.loop-n.b n) e c.loop-n.invariant) c.make_monic.ensures
