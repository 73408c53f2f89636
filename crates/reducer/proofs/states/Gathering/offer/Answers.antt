use Rattle.std.proofs.Common.{Result, ap}
use Rattle.rules.specs.declared.answer.Answer.{Answer}
use Rattle.rules.specs.declared.refusal.Refusal.{Refusal}
use Rattle.rules.specs.Job.{State}
use Rattle.rules.specs.Run.{offering}
use Rattle.reducer.specs.State.{state_of}
use Rattle.reducer.proofs.Calls.{after}
use Rattle.reducer.proofs.states.Gathering.offer.Goals as goal

pub returns-clause-law : goal.returns-clause-law
returns-clause-law g c a b sound =
    after (g.K.Coefficients.arithmetic c.args.self.now.kind) a b (state_of c.args.self.now.job) (offering c.args.point) (state_of c.offer_point.new.job) (λ only. ap (λ (x : State × Result Answer Refusal). x.0) ((c.offer_point.ensures a b sound).0.over_field only))
