use Rattle.std.proofs.Common.{◌≡◌, suc, ◌+◌, ◌-◌, ◌*◌, ◌≤◌, length, replicate, ◌∙◌, mul_comm, mul-suc, mul-add, arith, length-take}
use Rattle.std.proofs.lemmas.List.{length-take-le}
use Rattle.std.proofs.lemmas.Result.{err_from_is_err_and}
use Rattle.polynomials.proofs.Meaning.{lessened_take}
use Rattle.tables.proofs.Taken.{rows_fit, taken, not_taken}
use Rattle.tables.proofs.exact.Divisor.take_multiple.Goals as goal

pub returns-in_err-multiply_rows : goal.returns-in_err-multiply_rows
returns-in_err-multiply_rows g c =
    let p = err_from_is_err_and c.from_residual.result c.from_residual.ensures.1 in
    rw p.1 (not_taken _ _ _ _ c.args.shift _ c.multiply_rows.new.product c.in_err-multiply_rows.field-0.0 c.in_err-multiply_rows.ensures)

pub lessen-requires : goal.lessen-requires
lessen-requires g c =
    let w = c.args.self.now.rows.width in
    let s = c.args.shift in
    let n = c.args.self.now.count in
    let a : w * suc (n - 1) ≡ w * (n - 1) + w = mul-suc w (n - 1) in
    let b : w * (s + suc (n - 1)) ≡ w * s + w * suc (n - 1) = mul-add w s (suc (n - 1)) in
    let d : w * (s + suc (n - 1)) ≤ w * 16 = rows_fit w (s + suc (n - 1)) 16 (omega arith) in
    let turn : w * 16 ≡ 16 * w = mul_comm w 16 in
    let p = c.row_start-start.ensures.place in
    let q = c.row_start-last.ensures.place in
    let l = length-take (c.row_start-last.result + w) c.multiply_rows.new.product in
    omega arith

pub returns : goal.returns
returns g c =
    let k : length c.multiply_rows.new.product ≡ length c.args.self.now.rows.codes.now = c.multiply_rows.auto.product ∙ length-take-le (length c.args.self.now.rows.codes.now) (replicate 512 0) (omega arith) in
    taken _ _ _ _ _ _ _ c.multiply_rows.new.product _ _ _ _ c.requires.rest c.args.self.now.rows.sixteen (k ∙ c.args.self.now.rows.sixteen) (omega arith) c.args.self.now.some c.requires.within c.args.self.now.sized
    c.row_start-start.ensures.place c.row_start-last.ensures.place c.one.ensures (lessened_take _ _ _ _ _ _ (omega arith) c.lessen.ensures) (g.met.K.Coefficients.laws c.args.self.now.kind.now) c.in_ok-multiply_rows.ensures
