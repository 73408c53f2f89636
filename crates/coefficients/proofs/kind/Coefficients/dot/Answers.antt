use Rattle.std.proofs.Common.{◌≡◌, fold, sym, ap, ◌∙◌, rules}
use Rattle.std.proofs.lemmas.Fn.{fold_over, fronts}
use Rattle.std.proofs.lemmas.Iterator.{YieldsList-from_slice, YieldsList-from_zip, zips}
use Rattle.std.proofs.lemmas.List.Sums.{fold-append}
use Rattle.coefficients.proofs.Dots.{one_more, dot_by_fold}
use Rattle.coefficients.proofs.kind.Coefficients.dot.Goals as goal

pub returns : goal.returns
returns g c =
    let K = g.Self.Coefficients.arithmetic c.args.self.now in
    let xs = c.args.xs.now in
    let ys = c.args.ys.now in
    let pairs = YieldsList-from_zip {s = c.zip.result} (YieldsList-from_slice xs (search rules)) (YieldsList-from_slice ys (search rules)) in
    fold_over (zips fronts fronts) (λ p. (p.0.now, p.1.now)) _ (λ ps t. t ≡ fold (one_more K) K.zero ps) _
    (λ ps t p t' f k h.
    let next : t' ≡ one_more K t (p.0.now, p.1.now) = search rules in
    (next ∙ ap (λ n. one_more K n (p.0.now, p.1.now)) k ∙ sym (fold-append (one_more K) K.zero ps _), search rules))
    _ _ _ _ pairs.runs c.zero.ensures c.fold.ensures.ran
    ∙ dot_by_fold K (g.met.Self.Coefficients.laws c.args.self.now) xs ys
