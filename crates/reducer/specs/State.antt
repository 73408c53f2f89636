-- A job as the rules see it.
use Rattle.std.specs.Prelude.{take}
use Rattle.rules.specs.declared.counts.Counts.{Counts}
use Rattle.rules.specs.Job.{Tally, Stage, gathering, settled, void, State}
use Rattle.rules.specs.Offer.{raised}
use Rattle.reducer.specs.declared.standing.Standing.{Standing}
use Rattle.reducer.specs.declared.job.Job.{Job}
use Rattle.reducer.specs.declared.counting.Tallied.{Tallied}
use Rattle.reducer.specs.declared.counting.Tallied.TheVariants.{Foreign, Repeated, Vanishing, High, Late}

abbrev pub stage_of : Standing → Stage
stage_of Standing.Gathering = gathering
stage_of Standing.Settled = settled
stage_of (Standing.Void r) = void r

-- the counts but for held
abbrev pub tally_of : Counts → Tally
tally_of c = record { offered = c.offered; foreign = c.foreign; repeated = c.repeated; vanishing = c.vanishing; high = c.high; late = c.late; dropped = c.dropped }

-- one more offer, in a class
abbrev pub tallied : Tallied → Tally → Tally
tallied Foreign t = raised t 1 0 0 0 0 0
tallied Repeated t = raised t 0 1 0 0 0 0
tallied Vanishing t = raised t 0 0 1 0 0 0
tallied High t = raised t 0 0 0 1 0 0
tallied Late t = raised t 0 0 0 0 1 0

-- what the rules see of a job: the held points are the first of those it stores
abbrev pub state_of : Job → State
state_of j = record {
  stage = stage_of j.standing;
  ceiling = j.ceiling;
  level = j.level;
  held = take j.counts.held j.points;
  tally = tally_of j.counts;
}
