use Rattle.std.proofs.Common.{ℕ, List, Ok, subst}
use Rattle.polynomials.specs.Steps.{Division}
use Rattle.tables.proofs.Sizes.{sized_zero}
use Rattle.tables.proofs.Evenly.{divisor_nonzero, even_is, uneven_is}
use Rattle.tables.proofs.content.divide_even.Goals as goal

pub returns-then-size-eq0 : goal.returns-then-size-eq0
returns-then-size-eq0 g c =
    let K = g.K.Coefficients.arithmetic c.args.kind.now in
    let row = c.args.row.now in
    let by = c.args.by.now in
    let rest = c.divide_row.new.rest in
    let quotient = c.divide_row.new.quotient in
    let d : Division K row by c.args.quotient.now rest quotient (Ok tt) = subst (λ (l : List ℕ). Division K l by c.args.quotient.now rest quotient (Ok tt)) c.copy_from_slice.ensures.after c.in_ok-divide_row.ensures in
    λ hf hg.
    let told = d hf hg in
    (told.0, λ lw. (divisor_nonzero lw row by quotient rest (told.2 lw), even_is lw row by quotient rest (told.2 lw) (sized_zero K rest c.size.result c.size.ensures c.if-size-eq0.true)))

pub returns-else-size-eq0 : goal.returns-else-size-eq0
returns-else-size-eq0 g c =
    let K = g.K.Coefficients.arithmetic c.args.kind.now in
    let row = c.args.row.now in
    let by = c.args.by.now in
    let rest = c.divide_row.new.rest in
    let quotient = c.divide_row.new.quotient in
    let d : Division K row by c.args.quotient.now rest quotient (Ok tt) = subst (λ (l : List ℕ). Division K l by c.args.quotient.now rest quotient (Ok tt)) c.copy_from_slice.ensures.after c.in_ok-divide_row.ensures in
    λ hf hg.
    let told = d hf hg in
    (told.0, λ lw. (divisor_nonzero lw row by quotient rest (told.2 lw), uneven_is lw row by quotient rest (told.2 lw) c.size.result told.1 c.size.ensures c.if-size-eq0.false))
