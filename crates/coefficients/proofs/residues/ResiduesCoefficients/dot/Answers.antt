use Rattle.std.proofs.Common.{◌≡◌, ℕ, ◌%◌, true, sym, ap, ap₂, ◌∙◌, mod-lt, mod-eq_of_lt, arith, rules}
use Rattle.std.proofs.lemmas.Bool.{lt-ltb}
use Rattle.std.proofs.lemmas.Nat.{mul-lt}
use Rattle.std.proofs.lemmas.Slice.Zip.{Zip-more, either_empty_from_Zip}
use Rattle.std.specs.Iterator.Adapters.{zip_first, zip_second}
use Rattle.std.specs.Slice.Iter.{iter_rest}
use Rattle.coefficients.specs.Dot.{dot_of}
use Rattle.coefficients.specs.Modular.{modulo_laws}
use Rattle.coefficients.specs.Residue.{modulo}
use Rattle.coefficients.proofs.Dots.{dot_start, dot_more, dot_none}
use Rattle.coefficients.proofs.residues.ResiduesCoefficients.dot.Goals as goal

pub loop-x-init : goal.loop-x-init
loop-x-init c =
    let p : ℕ = c.args.self.now.modulus in
    let K = modulo p in
    let first : iter_rest (zip_first c.into_iter-x-iterator.result) ≡ c.args.xs.now = search rules in
    let second : iter_rest (zip_second c.into_iter-x-iterator.result) ≡ c.args.ys.now = search rules in
    record {
      kept = mul-lt 0 0 p p (omega arith) (omega arith);
      whole = ap₂ K.sum (mod-eq_of_lt (omega arith)) (ap₂ (dot_of K) first second) ∙ dot_start K (modulo_laws p c.args.self.now.low) _ _;
    }

pub loop-x-preserved : goal.loop-x-preserved
loop-x-preserved c =
    let p : ℕ = c.args.self.now.modulus in
    let K = modulo p in
    let total : ℕ = c.loop-x.total % p in
    let inside : K.element total ≡ true = lt-ltb total p (mod-lt c.loop-x.total (omega arith)) in
    let more = Zip-more c.loop-x.x-iterator c.next.new.self _ _ c.in-Some.is c.next.ensures.steps in
    let rest = dot_of K (iter_rest (zip_first c.next.new.self)) (iter_rest (zip_second c.next.new.self)) in
    record {
      kept = c.gather-total.ensures.below;
      whole =
          ap (λ n. K.sum n rest) c.gather-total.ensures.same ∙ sym (dot_more K (modulo_laws p c.args.self.now.low) total inside _ _ _ _)
          ∙ ap (K.sum total) (sym (ap₂ (dot_of K) more.0 more.1)) ∙ c.loop-x.invariant.whole;
    }

pub returns : goal.returns
returns c =
    let p : ℕ = c.args.self.now.modulus in
    let total : ℕ = c.loop-x.total % p in
    sym (dot_none (modulo p) (modulo_laws p c.args.self.now.low) total (lt-ltb total p (mod-lt c.loop-x.total (omega arith))) _ _
    (either_empty_from_Zip c.loop-x.x-iterator c.next.new.self _ c.in-None.is c.next.ensures.steps))
    ∙ c.loop-x.invariant.whole
