use Rattle.std.proofs.Common.{ℕ, ◌-◌, ◌<◌, sym, refl, ap, ◌∙◌, subst, arith}
use Rattle.std.proofs.lemmas.Bool.{lt-ltb}
use Rattle.coefficients.specs.Byte.{times}
use Rattle.coefficients.specs.Below.{guarded}
use Rattle.coefficients.specs.Powers.{power_below}
use Rattle.coefficients.specs.ByteLaws.{by_logs, zero_none}
use Rattle.coefficients.proofs.bytes.BytesCoefficients.reciprocal.Goals as goal

pub returns-then-a-eq0 : goal.returns-then-a-eq0
returns-then-a-eq0 c = (refl, lt-ltb c.args.a 256 (omega arith), λ r e. zero_none r (ap (λ n. guarded 256 (times 8) n r) (sym c.if-a-eq0.true) ∙ e))

pub returns : goal.returns
returns c =
    let a : ℕ = c.args.a in
    let i : ℕ = c.log.result in
    let ha : a < 256 = omega arith in
    let pos : 0 < a = omega arith in
    let is = c.power.ensures in
    (lt-ltb a 256 ha, lt-ltb c.power.result 256 (subst (λ (n : ℕ). n < 256) (sym is) (power_below (255 - i))), ap (guarded 256 (times 8) a) is ∙ by_logs a i ha c.log.ensures.small (c.log.ensures.back pos))
