use Rattle.std.proofs.Common.{◌+◌, ap, arith}
use Rattle.std.proofs.lemmas.Result.{err_from_is_err_and}
use Rattle.steps.specs.declared.prepare.Workings.{Workings}
use Rattle.steps.proofs.Preparing.{lead_refused, workings}
use Rattle.steps.proofs.prepare.prepare.Goals as goal

pub returns-in_err-lead_gcd : goal.returns-in_err-lead_gcd
returns-in_err-lead_gcd g c =
    let p = err_from_is_err_and c.from_residual-in_err-lead_gcd.result c.from_residual-in_err-lead_gcd.ensures.1 in
    rw (p.1, p.2) λ ha hb na nb. lead_refused _ _ _ _ c.in_err-lead_gcd.ensures (c.in_ok-left.ensures.1 ha).rows_in (c.in_ok-right.ensures.1 hb).rows_in

pub returns : goal.returns
returns g c =
    let l = c.in_ok-left.ensures.0 in
    let r = c.in_ok-right.ensures.0 in
    let ly = l.in_y in
    let ry = r.in_y in
    let lx = l.in_x in
    let rx = r.in_x in
    let d = c.degree-lead_degree.result in
    let w : Workings = record { left = c.in_ok-left.left; right = c.in_ok-right.right; lead = c.lead_gcd.new.shared; height_left = d + c.in_ok-left.left.degree_y; height_right = d + c.in_ok-right.right.degree_y; closing = c.max-closing.result + 1; ceiling = c.min-ceiling.result + 1 } in (
      record { closing_some = omega arith; closing_few = omega (arith, c.size.ensures.within, ly, ry); ceiling_some = omega arith; ceiling_few = omega (arith, lx, rx) },
      λ ha hb. workings c.args.a.now c.args.b.now w _ c.size.result (c.in_ok-left.ensures.1 ha) (c.in_ok-right.ensures.1 hb) c.in_ok-lead_gcd.ensures c.size.ensures
          (ap (λ n. n + c.in_ok-left.left.degree_y) c.degree-lead_degree.ensures) (ap (λ n. n + c.in_ok-right.right.degree_y) c.degree-lead_degree.ensures) (ap (λ n. n + 1) c.max-closing.ensures) (ap (λ n. n + 1) c.min-ceiling.ensures),
    )
