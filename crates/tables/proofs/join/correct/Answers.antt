use Rattle.std.proofs.Common.{◌≡◌, ℕ, ◌+◌, ◌-◌, ◌*◌, get_or, take, drop, subst, arith}
use Rattle.std.proofs.lemmas.Result.{err_from_is_err_and}
use Rattle.tables.specs.Join.{Corrects}
use Rattle.tables.proofs.Correcting.{Correcting, correcting_more, corrected_rows, refused}
use Rattle.tables.proofs.join.correct.Goals as goal

pub returns-in_err-inverse : goal.returns-in_err-inverse
returns-in_err-inverse g c =
    let K = g.K.Coefficients.arithmetic c.args.kind.now in
    let p = err_from_is_err_and c.from_residual.result c.from_residual.ensures.1 in
    rw (p.1, p.2) (refused K c.args.master.now c.args.point c.args.values.now c.args.joined.now c.horner.result _ c.horner.ensures c.in_err-inverse.ensures)

pub loop-i-preserved : goal.loop-i-preserved
loop-i-preserved g c =
    let K = g.K.Coefficients.arithmetic c.args.kind.now in
    let t = c.loop-i.joined in
    let i = c.loop-i.i in
    let width : (32 * i + 32) - 32 * i ≡ 32 = omega arith in
    let step = subst (λ (n : ℕ). Corrects K c.args.master.now c.args.point c.in_ok-inverse.inverse (get_or c.args.values.now i 0) (take n (drop (32 * i) t)) c.correct_row.new.row) width c.correct_row.ensures in
    correcting_more K c.args.master.now c.args.point c.in_ok-inverse.inverse c.args.values.now c.args.joined.now t c.correct_row.new.row i ((32 * i + 32) - 32 * i)
    width (omega arith) (omega arith) (omega arith) step c.loop-i.invariant

pub returns : goal.returns
returns g c =
    let K = g.K.Coefficients.arithmetic c.args.kind.now in
    let told = c.in_ok-inverse.ensures in
    let e : c.loop-i.i ≡ 16 = omega arith in
    corrected_rows K c.args.master.now c.args.point c.in_ok-inverse.inverse c.args.values.now c.args.joined.now c.loop-i.joined c.horner.result
    (omega arith) (omega arith) c.horner.ensures told.1 told.2
    (subst (λ (n : ℕ). Correcting K c.args.master.now c.args.point c.in_ok-inverse.inverse c.args.values.now c.args.joined.now c.loop-i.joined n) e c.loop-i.invariant)
