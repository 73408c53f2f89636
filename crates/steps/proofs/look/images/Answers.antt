use Rattle.std.proofs.Common.{◌≡◌, length, arith, rules}
use Rattle.std.proofs.lemmas.Result.{err_from_is_err_and}
use Rattle.steps.specs.declared.share.Shares.{Shares}
use Rattle.steps.proofs.Looking.{images_are, images_refused}
use Rattle.steps.proofs.look.images.Goals as goal

pub returns-in_err-size : goal.returns-in_err-size
returns-in_err-size g c =
    let p = err_from_is_err_and c.from_residual.result c.from_residual.ensures.1 in
    let long_A : length c.args.workings.now.left.rows ≡ 256 = search rules in
    let long_B : length c.args.workings.now.right.rows ≡ 256 = search rules in
    rw (p.1, p.2)
    (images_refused c.args.workings.now c.args.point c.image_row.new.row c.image_row-2.new.row _ long_A long_B c.image_row.ensures c.image_row-2.ensures c.in_err-size.ensures)

pub returns : goal.returns
returns g c =
    let long_A : length c.args.workings.now.left.rows ≡ 256 = search rules in
    let long_B : length c.args.workings.now.right.rows ≡ 256 = search rules in
    let s : Shares = c.in_ok-size.field-0 in
    images_are (g.met.K.Coefficients.laws c.args.kind.now) c.args.workings.now c.args.point c.args.value c.image_row.new.row c.image_row-2.new.row c.scale.new.row s c.degree.result long_A long_B c.image_row.ensures c.image_row-2.ensures c.in_ok-size.ensures (omega arith) c.scale.ensures c.degree.ensures
