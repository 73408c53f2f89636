use Rattle.std.proofs.Common.{[], refl, arith}
use Rattle.std.proofs.lemmas.Result.{err_from_is_err_and}
use Rattle.steps.proofs.Preparing.{part_refused, part_is}
use Rattle.steps.proofs.prepare.part_of.Goals as goal

pub returns-in_err-take_content : goal.returns-in_err-take_content
returns-in_err-take_content g c =
    let p = err_from_is_err_and c.from_residual.result c.from_residual.ensures.1 in
    rw (p.1, p.2) (part_refused (g.met.K.Coefficients.laws c.args.kind.now) c.args.table.now _ _ _ _ c.in_err-take_content.ensures)

pub returns : goal.returns
returns g c = (
  record { in_x = omega (arith, c.size_x.ensures.codes.within); in_y = omega (arith, c.size_y.ensures.codes.within) },
  part_is c.args.table.now [] c.take_content.new.content c.take_content.new.part _ c.size_x.result c.size_y.result c.in_ok-take_content.ensures c.size_x.ensures.size c.size_y.ensures.size (record { content = c.take_content.new.content; rows = c.take_content.new.part; degree_x = c.degree-degree_x.result; degree_y = c.degree-degree_y.result }) refl refl c.degree-degree_x.ensures c.degree-degree_y.ensures,
)
