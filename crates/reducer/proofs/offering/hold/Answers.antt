use Rattle.std.proofs.Common.{refl, ap}
use Rattle.rules.specs.Job.{State}
use Rattle.reducer.proofs.Sounds.{held_few, held_below}
use Rattle.reducer.proofs.Keeping.{holds_with}
use Rattle.reducer.proofs.Accepting.{stays_held}
use Rattle.reducer.proofs.Completing.{carried}
use Rattle.reducer.proofs.offering.hold.Goals as goal

pub returns-then-kept-job : goal.returns-then-kept-job
returns-then-kept-job g c a b fit =
    let j = c.args.job.now in
    carried a b j c.args.point c.args.image.now fit j.stored (held_few j fit.standing) (held_below j fit.standing) c.kept_beside-kept.result c.kept_beside-kept.ensures c.if-kept-job.true c.if-image-eq0.false
    _ c.put_images.ensures _ c.hold_last.new.job c.hold_last.result (c.hold_last.ensures a b) refl refl refl refl refl refl refl

pub returns-else-kept-job : goal.returns-else-kept-job
returns-else-kept-job g c a b fit =
    let j = c.args.job.now in
    let image = c.args.image.now in
    let kept = c.kept_beside-kept.result in
    let few = held_few j fit.standing in
    let holds = holds_with j image.degree kept c.kept_beside-kept.ensures few a b c.args.point image.rows _ j.stored fit.gathers.holds fit.fresh.element fit.fresh.apart fit.low fit.images c.put_images.ensures in
    stays_held (g.met.K.Coefficients.laws c.args.kind.now) a b j c.args.point image.degree image.rows.divisor image.rows.left image.rows.right fit.standing c.requires.room fit.gathers fit.fresh fit.low fit.images j.stored few kept c.kept_beside-kept.ensures
    c.if-image-eq0.false c.if-kept-job.false _ holds c.keep.new.job c.keep.result c.keep.ensures.state c.keep.ensures.standing c.keep.ensures.answer c.keep.ensures.rows.workings (ap (λ (x : State). x.level) c.keep.ensures.state) c.keep.ensures.held c.keep.ensures.rows.points c.keep.ensures.rows.images
