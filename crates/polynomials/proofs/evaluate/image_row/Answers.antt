use Rattle.std.proofs.Common.{ℕ, ◌*◌, List, length, sym, ap, subst, ◌∙◌, arith, length-drop}
use Rattle.polynomials.specs.Steps.{Valued}
use Rattle.polynomials.proofs.Images.{row_turn, values_more, imaged}
use Rattle.polynomials.proofs.evaluate.image_row.Goals as goal

pub loop-i-preserved : goal.loop-i-preserved
loop-i-preserved g c =
    let K = g.K.Coefficients.arithmetic c.args.kind.now in
    let table = c.args.table.now in
    let s = c.in-Some.ensures.steps in
    let turn = row_turn table _ c.in-Some.codes.now _ _ c.requires.table c.loop-i.invariant.rest s.0.1.0 (s.0.1.1 ∙ c.loop-i.invariant.size) in
    rw (s.2, s.1) record {
      size = omega arith;
      rest = turn.2;
      values = values_more K table c.loop-i.row c.args.point _ c.horner.result (rw c.loop-i.auto.row (omega arith)) (subst (λ (row : List ℕ). Valued K row c.args.point c.horner.result) (sym turn.1) c.horner.ensures) c.loop-i.invariant.values;
    }

pub returns : goal.returns
returns g c =
    let left = ap length c.loop-i.invariant.rest ∙ length-drop (16 * c.loop-i.i-iterator.count) c.args.table.now in
    let end = c.in-None.ensures.steps in
    imaged (g.met.K.Coefficients.laws c.args.kind.now) c.args.table.now c.args.point c.loop-i.row (omega arith) (λ i lt. c.loop-i.invariant.values i (omega arith))
