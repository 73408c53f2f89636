use Rattle.std.proofs.Common.{◌≡◌, ℕ, ◌<◌, ap₂, ◌∙◌, subst, arith, length-take, get_or-take}
use Rattle.polynomials.specs.Rows.{Sized}
use Rattle.polynomials.proofs.Meaning.{lessened_take}
use Rattle.polynomials.proofs.Products.{multiplying_none, multiplying_more, multiplied, multiplied_zero}
use Rattle.polynomials.proofs.product.multiply_row.Goals as goal

pub returns-then-count-eq0 : goal.returns-then-count-eq0
returns-then-count-eq0 g c =
    let K = g.K.Coefficients.arithmetic c.args.kind.now in
    let s = subst (λ (n : ℕ). Sized K c.args.b.now n) c.if-count-eq0.true c.size-count.ensures in
    multiplied_zero K (g.met.K.Coefficients.laws c.args.kind.now) c.args.a.now c.args.b.now c.clear.new.row s (λ i lt. c.clear.ensures i (omega arith))

pub loop-i-init : goal.loop-i-init
loop-i-init g c = multiplying_none (g.K.Coefficients.arithmetic c.args.kind.now) (g.met.K.Coefficients.laws c.args.kind.now) c.args.a.now c.args.b.now c.clear.new.row (λ i lt. c.clear.ensures i (omega arith))

pub loop-i-preserved : goal.loop-i-preserved
loop-i-preserved g c =
    let K = g.K.Coefficients.arithmetic c.args.kind.now in
    let a = c.args.a.now in
    let i = c.loop-i.i in
    let n = c.size-terms.result in
    let some = c.size-terms.ensures.within in
    let terms = length-take n a in
    let below : i < n = omega arith in
    let room = c.if-not-has_room.ensures (omega arith) (omega arith) in
    multiplying_more K (g.met.K.Coefficients.laws c.args.kind.now) a c.args.b.now c.loop-i.product c.lessen.new.acc i c.size-count.result c.sub-negative.result
    (omega arith) (omega arith) (omega arith) c.size-count.ensures (c.sub-negative.ensures ∙ ap₂ K.difference c.zero.ensures (get_or-take n a i 0 below)) (lessened_take _ _ _ _ _ _ c.size-count.ensures.within c.lessen.ensures) c.loop-i.invariant

pub returns : goal.returns
returns g c =
    let K = g.K.Coefficients.arithmetic c.args.kind.now in
    let some = c.size-terms.ensures.within in
    let terms = length-take c.size-terms.result c.args.a.now in
    let e : c.loop-i.i ≡ c.size-terms.result = omega arith in
    multiplied K c.args.a.now c.args.b.now c.loop-i.product c.size-terms.result c.size-terms.ensures (rw e at c.loop-i.invariant)
