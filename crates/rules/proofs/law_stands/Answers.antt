use Rattle.rules.proofs.Law.{law}
use Rattle.rules.proofs.law_stands.Goals as goal

pub returns : goal.returns
returns c = law
