use Rattle.reducer.proofs.Checking.{tables, begun_opened, begun_sound, voided_opened, voided_sound}
use Rattle.reducer.proofs.opening.open_job.Goals as goal

pub prepare-requires : goal.prepare-requires
prepare-requires g c =
    let t = tables (g.met.K.Coefficients.laws c.args.kind.now) c.args.a.now c.args.b.now c.in_default.ensures in
    record { a_long = t.A_long; b_long = t.B_long }

pub returns-in-Ok : goal.returns-in-Ok
returns-in-Ok g c =
    let laws = g.met.K.Coefficients.laws c.args.kind.now in
    let o = c.in_default.ensures in
    let w = c.in-Ok.workings in
    let p = c.in-Ok.ensures in
    record {
      opened = begun_opened laws c.args.a.now c.args.b.now o w p c.begin.result c.begin.ensures;
      sound = begun_sound laws c.args.a.now c.args.b.now o w p c.begin.result c.begin.ensures;
    }

pub returns-in-Err-prepare : goal.returns-in-Err-prepare
returns-in-Err-prepare g c =
    let laws = g.met.K.Coefficients.laws c.args.kind.now in
    let o = c.in_default.ensures in
    let e = c.in-Err-prepare.fault in
    let f = c.in-Err-prepare.ensures in
    record {
      opened = voided_opened laws c.args.a.now c.args.b.now o e f c.named_element.result c.named_element.ensures c.refuse-in-Err-prepare.result c.refuse-in-Err-prepare.ensures;
      sound = voided_sound laws c.args.a.now c.args.b.now o e f c.named_element.result c.named_element.ensures c.refuse-in-Err-prepare.result c.refuse-in-Err-prepare.ensures;
    }
