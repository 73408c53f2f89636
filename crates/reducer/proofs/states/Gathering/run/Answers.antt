use Rattle.std.proofs.Common.{ap}
use Rattle.rules.specs.Run.{Outcome, running}
use Rattle.reducer.specs.State.{state_of}
use Rattle.reducer.proofs.Calls.{after}
use Rattle.reducer.proofs.states.Gathering.run.Goals as goal

pub returns-clause-law : goal.returns-clause-law
returns-clause-law g c a b sound =
    after (g.K.Coefficients.arithmetic c.args.self.now.kind) a b (state_of c.args.self.now.job) (running (g.S.Source.waiting c.args.source.now) c.args.draws) (state_of c.run_job.new.job) (λ only. ap (λ (x : Outcome). x.state) ((c.run_job.ensures.ran a b sound).over_field only))
