use Rattle.std.proofs.Common.{ℕ, refl, subst, arith}
use Rattle.std.proofs.lemmas.Bool.{lt-ltb}
use Rattle.coefficients.proofs.Euclid.{Going, going_more, found_none}
use Rattle.coefficients.proofs.residues.ResiduesCoefficients.reciprocal.Goals as goal

pub loop-r1-preserved : goal.loop-r1-preserved
loop-r1-preserved c =
    going_more c.args.self.now.modulus c.args.a c.args.self.now.low c.if-a-self.false
    c.loop-r1.r0 c.loop-r1.r1 c.loop-r1.s0 c.loop-r1.s1 c.loop-r1.invariant (omega arith)

pub returns-else-r0-eq1 : goal.returns-else-r0-eq1
returns-else-r0-eq1 c =
    let p : ℕ = c.args.self.now.modulus in
    let a : ℕ = c.args.a in
    let s0 : ℕ = c.loop-r1.s0 in
    let s1 : ℕ = c.loop-r1.s1 in
    let go = subst (λ (n : ℕ). Going p a c.loop-r1.r0 n s0 s1) c.loop-r1-test.false c.loop-r1.invariant in
    (refl, lt-ltb a p c.if-a-self.false, found_none p a c.args.self.now.low c.if-a-self.false c.loop-r1.r0 s0 s1 go c.if-r0-eq1.false)
