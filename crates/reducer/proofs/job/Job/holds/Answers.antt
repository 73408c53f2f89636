use Rattle.std.proofs.Common.{◌∙◌}
use Rattle.reducer.proofs.Places.{any_member}
use Rattle.reducer.proofs.job.Job.holds.Goals as goal

pub returns : goal.returns
returns c = rw c.points.ensures at (c.contains.ensures.value ∙ any_member c.args.point c.points.result.now)
