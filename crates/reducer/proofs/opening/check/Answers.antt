use Rattle.std.proofs.lemmas.Result.{err_from_is_err_and}
use Rattle.reducer.proofs.Checking.{length_A, length_B, elements_A, elements_B, some_A, some_B, lead_A, lead_B}
use Rattle.reducer.proofs.opening.check.Goals as goal

pub returns-in_err-check_length : goal.returns-in_err-check_length
returns-in_err-check_length g c =
    let p = err_from_is_err_and c.from_residual.result c.from_residual.ensures.1 in
    rw (p.1, p.2) (length_A (g.K.Coefficients.arithmetic c.args.kind.now) c.args.a.now c.args.b.now _ c.in_err-check_length.ensures)

pub returns-in_err-check_length-2 : goal.returns-in_err-check_length-2
returns-in_err-check_length-2 g c =
    let p = err_from_is_err_and c.from_residual-in_err-check_length-2.result c.from_residual-in_err-check_length-2.ensures.1 in
    rw (p.1, p.2) (length_B (g.K.Coefficients.arithmetic c.args.kind.now) c.args.a.now c.args.b.now c.in_ok-check_length.ensures _ c.in_err-check_length-2.ensures)

pub returns-in_err-check_elements : goal.returns-in_err-check_elements
returns-in_err-check_elements g c =
    let p = err_from_is_err_and c.from_residual-in_err-check_elements.result c.from_residual-in_err-check_elements.ensures.1 in
    rw (p.1, p.2) (elements_A (g.K.Coefficients.arithmetic c.args.kind.now) c.args.a.now c.args.b.now c.in_ok-check_length.ensures c.in_ok-check_length-2.ensures _ c.in_err-check_elements.ensures)

pub returns-in_err-check_elements-2 : goal.returns-in_err-check_elements-2
returns-in_err-check_elements-2 g c =
    let p = err_from_is_err_and c.from_residual-in_err-check_elements-2.result c.from_residual-in_err-check_elements-2.ensures.1 in
    rw (p.1, p.2) (elements_B (g.K.Coefficients.arithmetic c.args.kind.now) c.args.a.now c.args.b.now c.in_ok-check_length.ensures c.in_ok-check_length-2.ensures c.in_ok-check_elements.ensures _ c.in_err-check_elements-2.ensures)

pub returns-in_err-left : goal.returns-in_err-left
returns-in_err-left g c =
    let p = err_from_is_err_and c.from_residual-in_err-left.result c.from_residual-in_err-left.ensures.1 in
    rw (p.1, p.2) (some_A (g.K.Coefficients.arithmetic c.args.kind.now) c.args.a.now c.args.b.now c.in_ok-check_length.ensures c.in_ok-check_length-2.ensures c.in_ok-check_elements.ensures c.in_ok-check_elements-2.ensures _ c.in_err-left.ensures)

pub returns-in_err-right : goal.returns-in_err-right
returns-in_err-right g c =
    let p = err_from_is_err_and c.from_residual-in_err-right.result c.from_residual-in_err-right.ensures.1 in
    rw (p.1, p.2) (some_B (g.K.Coefficients.arithmetic c.args.kind.now) c.args.a.now c.args.b.now c.in_ok-check_length.ensures c.in_ok-check_length-2.ensures c.in_ok-check_elements.ensures c.in_ok-check_elements-2.ensures c.in_ok-left.left c.in_ok-left.ensures _ c.in_err-right.ensures)

pub returns-in_err-check_lead : goal.returns-in_err-check_lead
returns-in_err-check_lead g c =
    let p = err_from_is_err_and c.from_residual-in_err-check_lead.result c.from_residual-in_err-check_lead.ensures.1 in
    rw (p.1, p.2) (lead_A (g.K.Coefficients.arithmetic c.args.kind.now) c.args.a.now c.args.b.now c.in_ok-check_length.ensures c.in_ok-check_length-2.ensures c.in_ok-check_elements.ensures c.in_ok-check_elements-2.ensures c.in_ok-left.left c.in_ok-left.ensures c.in_ok-right.right c.in_ok-right.ensures _ c.in_err-check_lead.ensures)

pub returns : goal.returns
returns g c =
    lead_B (g.K.Coefficients.arithmetic c.args.kind.now) c.args.a.now c.args.b.now c.in_ok-check_length.ensures c.in_ok-check_length-2.ensures c.in_ok-check_elements.ensures c.in_ok-check_elements-2.ensures c.in_ok-left.left c.in_ok-left.ensures c.in_ok-right.right c.in_ok-right.ensures
    (g.met.K.Coefficients.laws c.args.kind.now) c.in_ok-check_lead.ensures c.check_lead-2.result c.check_lead-2.ensures
