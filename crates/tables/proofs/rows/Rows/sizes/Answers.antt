use Rattle.std.proofs.Common.{ℕ, get_or, set, ◌∙◌, sym, subst, arith, below_more, length-set, get_or-set_other, get_or-set_same}
use Rattle.polynomials.specs.Rows.{Sized, cut_row}
use Rattle.tables.proofs.rows.Rows.sizes.Goals as goal

pub loop-i-preserved : goal.loop-i-preserved
loop-i-preserved g c =
    let K = g.K.Coefficients.arithmetic c.args.kind.now in
    let row = λ (k : ℕ). cut_row c.args.self.now.width c.args.self.now.codes.now k in
    let i = c.loop-i.i in
    let n = c.size.result in
    let sizes = c.loop-i.sizes in
    let h = c.loop-i.invariant in
    record {
      long = length-set sizes i n ∙ h.long;
      sized = below_more (λ k. Sized K (row k) (get_or (set sizes i n) k 0)) i
          (λ k lt. subst (λ (m : ℕ). Sized K (row k) m) (sym (get_or-set_other sizes i k n 0 (omega arith))) (h.sized k lt))
          (subst (λ (m : ℕ). Sized K (row i) m) (sym (get_or-set_same sizes i n 0 (omega arith))) (rw (c.each.ensures.codes i _ (omega arith)) at c.size.ensures));
    }
