use Rattle.std.proofs.Common.{◌≡◌, ℕ, [], ◌∷◌, length, set, replicate, sym, ◌∙◌, subst, inl, inr, arith, length-append}
use lib.ListN.{get_or-replicate}
use Rattle.std.proofs.lemmas.Result.{err_from_is_err_and}
use Rattle.tables.proofs.Newton.{JoinedTo, joined_none, joined_more, joined_all, joined_refused}
use Rattle.tables.proofs.Pairs.{left_next, left_row, left_none, left_short}
use Rattle.tables.proofs.join.join.Goals as goal

pub loop-point-init : goal.loop-point-init
loop-point-init g c =
    let K = g.K.Coefficients.arithmetic c.args.kind.now in
    let zero = c.zero-master.result in
    let e = c.into_iter-point-iterator.ensures.into_iter_gives in
    let z = c.zip-point-items.ensures in (
      (tt, rw (e, z.second, c.chunks_exact.ensures.size) (omega arith)),
      tt,
      record {
        within = omega arith;
        points_left = rw (e, z.first) c.iter.ensures.rest;
        rows_left = rw (e, z.second) c.chunks_exact.ensures.rest;
        sixteen = rw (e, z.second) c.chunks_exact.ensures.size;
      },
      subst (λ (one : ℕ). JoinedTo K c.args.points.now c.args.rows.now (set (replicate 32 zero) 0 one) c.clear.new.row 0) (sym c.one.ensures)
          (joined_none (g.met.K.Coefficients.laws c.args.kind.now) c.args.points.now c.args.rows.now (replicate 32 zero) c.clear.new.row (omega arith) (omega arith)
          (λ j lt. get_or-replicate 32 j zero 0 (omega arith) ∙ c.zero-master.ensures) (λ j lt. c.clear.ensures j (omega arith))),
    )

pub returns-in_err-correct : goal.returns-in_err-correct
returns-in_err-correct g c =
    let (can, finite, left, joined) = c.loop-point.invariant in
    let s = c.in-Some.ensures.steps in
    let (lt, x, points) = left_next _ _ _ _ _ _ left _ _ s.0 in
    let p = err_from_is_err_and c.from_residual.result c.from_residual.ensures.1 in
    rw (p.1, p.2) (joined_refused (g.met.K.Coefficients.laws c.args.kind.now) _ _ c.requires.points c.requires.rows _ _ _ _ _ lt (rw x at c.in_err-correct.ensures) joined)

pub loop-point-preserved : goal.loop-point-preserved
loop-point-preserved g c =
    let (can, finite, left, joined) = c.loop-point.invariant in
    let s = c.in-Some.ensures.steps in
    let (lt, x, points) = left_next _ _ _ _ _ _ left _ _ s.0 in
    let (y, rows) = left_row _ _ _ _ _ _ left _ _ s.1.1.0 s.1.1.1 in
    rw (length-append c.loop-point.yielded ((c.in-Some.point, c.in-Some.values) ∷ [])) (
      (tt, rw s.1.0 can.1),
      tt,
      record { within = omega arith; points_left = points; rows_left = rows; sixteen = s.1.0 ∙ left.sixteen },
      joined_more (g.met.K.Coefficients.laws c.args.kind.now) _ _ c.requires.points c.requires.rows _ _ _ _ _ lt (omega arith) (rw (x, y) at c.in_ok-correct.ensures) (rw x at c.grow.ensures) joined,
    )

pub returns : goal.returns
returns g c =
    let (can, finite, left, joined) = c.loop-point.invariant in
    let all : length c.loop-point.yielded ≡ length c.args.points.now = elim c.in-None.ensures.steps [
      | inl a ↦ left_none _ _ _ _ _ _ left a.1.0
      | inr b ↦ left_short _ _ _ _ _ _ left c.requires.rows b.1.1.0
    ] in
    joined_all (g.met.K.Coefficients.laws c.args.kind.now) _ _ c.requires.points c.requires.rows _ _ _ all (omega arith) joined
