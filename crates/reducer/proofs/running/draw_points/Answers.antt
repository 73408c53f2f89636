use Rattle.std.proofs.Common.{arith}
use Rattle.reducer.specs.State.{state_of}
use Rattle.reducer.proofs.Drawing.{going_stop, going_more, going_empty, drawn_fewer}
use Rattle.reducer.proofs.Offers.{counts_of}
use Rattle.reducer.proofs.running.draw_points.Goals as goal

pub returns-in-Some-clause-drawing : goal.returns-in-Some-clause-drawing
returns-in-Some-clause-drawing g c a b sound =
    going_stop (g.K.Coefficients.arithmetic c.args.kind.now) a b c.args.draws _ _ (state_of c.drawing.job) c.drawing.drawn (g.S.Source.waiting c.drawing.source) c.in-Some.ending c.in-Some.ensures (c.drawing.invariant.going a b sound)

pub drawing-preserved : goal.drawing-preserved
drawing-preserved g c =
    let K = g.K.Coefficients.arithmetic c.args.kind.now in
    let fewer = drawn_fewer (state_of c.drawing.job) c.drawing.drawn c.args.draws c.in_default.ensures in
    let held = c.drawing.invariant in
    record {
      fewer = omega (arith, held.fewer);
      going = λ a b sound. going_more K a b c.args.draws _ _ (state_of c.drawing.job) (state_of c.offer_point.new.job) c.drawing.drawn c.in-Some-draw.point c.offer_point.result (g.S.Source.waiting c.drawing.source) (g.S.Source.waiting c.draw.new.self) c.in_default.ensures c.in-Some-draw.ensures (c.offer_point.ensures a b (held.sound a b sound)).0 (held.going a b sound);
      sound = λ a b sound. (c.offer_point.ensures a b (held.sound a b sound)).1;
    }

pub returns-in_default-draw-clause-drawing : goal.returns-in_default-draw-clause-drawing
returns-in_default-draw-clause-drawing g c a b sound =
    let j = c.drawing.job in
    let stored = j.stored in
    let few = j.few in
    going_empty (g.K.Coefficients.arithmetic c.args.kind.now) a b c.args.draws _ _ (state_of j) c.drawing.drawn (g.S.Source.waiting c.drawing.source) (g.S.Source.waiting c.draw.new.self) j.counts c.in_default.ensures c.in_default-draw.ensures (counts_of j (omega arith)) (c.drawing.invariant.going a b sound)
