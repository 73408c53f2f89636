use Rattle.std.proofs.Common.{◌+◌, ◌<◌, sym, refl, ap, ◌∙◌, ⊎_elim, arith}
use Rattle.coefficients.specs.Byte.{times}
use Rattle.coefficients.specs.Products.{times_zero, zero_times}
use Rattle.coefficients.specs.Powers.{times_by_logs}
use Rattle.coefficients.proofs.bytes.multiply.Goals as goal

pub returns-then-b-eq0 : goal.returns-then-b-eq0
returns-then-b-eq0 c =
    ⊎_elim (λ e. sym (ap (λ n. times 8 n c.args.b) e ∙ zero_times c.args.b))
    (λ e. sym (ap (times 8 c.args.a) e.1 ∙ times_zero c.args.a))
    c.if-b-eq0.either

pub returns-else-b-eq0 : goal.returns-else-b-eq0
returns-else-b-eq0 c =
    let pa : 0 < c.args.a = omega arith in
    let pb : 0 < c.args.b = omega arith in
    c.power.ensures ∙ sym (times_by_logs c.args.a c.args.b c.log.result c.log-else-b-eq0.result (c.log.result + c.log-else-b-eq0.result) (c.log.ensures.back pa) (c.log-else-b-eq0.ensures.back pb) refl)
