use Rattle.std.proofs.Common.{◌≡◌, ◌-◌, length, refl, arith}
use Rattle.std.proofs.lemmas.Result.{err_from_is_err_and}
use Rattle.polynomials.specs.Rows.{cut_row}
use Rattle.polynomials.proofs.Inverse.{stuck}
use Rattle.tables.proofs.Sizes.{row_inside}
use Rattle.tables.proofs.Multiples.{sized_any}
use Rattle.tables.proofs.MonicRows.{monic_inside, monic_sized, monic_of, monic_zero, lead_positive}
use Rattle.tables.proofs.scale.make_monic_rows.Goals as goal

pub returns-then-n-eq0 : goal.returns-then-n-eq0
returns-then-n-eq0 g c =
    let view = c.new-view.ensures in
    let s = rw (view.codes, view.width, c.if-n-eq0.true) at c.size_x-n.ensures.codes in
    (s, λ h. (h, s, λ lw. monic_zero lw _ _ c.requires.sixteen s h))

pub returns-in_err-new : goal.returns-in_err-new
returns-in_err-new g c =
    let K = g.K.Coefficients.arithmetic c.args.kind.now in
    let view = c.new-view.ensures in
    let row = rw (view.codes, view.width) at c.row-lead.ensures.codes in
    let s = rw (view.codes, view.width) at c.size_x-n.ensures.codes in
    let lead = cut_row c.args.width c.args.rows.now (c.size_x-n.result - 1) in
    let (m, sized) = sized_any K lead in
    let p = err_from_is_err_and c.from_residual.result c.from_residual.ensures.1 in
    rw (p.1, p.2) (refl, λ h. stuck K lead m (lead_positive _ _ _ _ _ (omega arith) s sized) sized (row_inside K c.args.width _ (c.size_x-n.result - 1) h) _ (rw row at c.in_err-new.ensures.err))

pub returns : goal.returns
returns g c =
    let K = g.K.Coefficients.arithmetic c.args.kind.now in
    let laws = g.met.K.Coefficients.laws c.args.kind.now in
    let view = c.new-view.ensures in
    let row = rw (view.codes, view.width) at c.row-lead.ensures.codes in
    let s = rw (view.codes, view.width) at c.size_x-n.ensures.codes in
    let (m, sized) = sized_any K (cut_row c.args.width c.args.rows.now (c.size_x-n.result - 1)) in
    let iv = (rw (c.in_ok-new.ensures.kind, c.in_ok-new.ensures.row, row) at c.inverse-inverse.ensures) m sized in
    let len : length c.scale.new.row ≡ length c.args.rows.now = omega arith in (
      s,
      λ h. (
        monic_inside laws _ _ _ _ _ _ c.requires.sixteen len (omega arith) s sized iv c.scale.ensures,
        monic_sized laws _ _ _ _ _ _ c.requires.sixteen len (omega arith) s sized iv c.scale.ensures h,
        monic_of laws _ _ _ _ _ _ c.requires.sixteen len (omega arith) s sized iv c.scale.ensures h,
      ),
    )
