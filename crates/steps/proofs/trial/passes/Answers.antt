use Rattle.std.proofs.Common.{◌+◌, sym, ◌∙◌, ap₂, eq-eqb, eqb-true}
use Rattle.steps.proofs.Trying.{tried}
use Rattle.steps.proofs.trial.passes.Goals as goal

pub returns-then-workings-height : goal.returns-then-workings-height
returns-then-workings-height g c =
    let (d, in_d, is_d) = c.height_of-height.ensures.degree in
    let (l, in_l, is_l) = c.height_of-left.ensures.degree in
    let (r, in_r, is_r) = c.height_of-right.ensures.degree in
    tried c.args.workings.now c.args.joined.now d l r _ in_d in_l in_r (
      λ e. (c.if-workings-height.true ∙ ap₂ ◌+◌ is_d is_l, eqb-true _ _ e ∙ ap₂ ◌+◌ is_d is_r),
      λ t. eq-eqb _ _ (t.1 ∙ sym (ap₂ ◌+◌ is_d is_r)),
    )

pub returns-else-workings-height : goal.returns-else-workings-height
returns-else-workings-height g c =
    let (d, in_d, is_d) = c.height_of-height.ensures.degree in
    let (l, in_l, is_l) = c.height_of-left.ensures.degree in
    let (r, in_r, is_r) = c.height_of-right.ensures.degree in
    tried c.args.workings.now c.args.joined.now d l r _ in_d in_l in_r (
      λ e. absurd (c.if-workings-height.false (eqb-true _ _ e)),
      λ t. absurd (c.if-workings-height.false (t.0 ∙ sym (ap₂ ◌+◌ is_d is_l))),
    )
