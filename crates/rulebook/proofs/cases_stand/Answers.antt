use Rattle.rulebook.proofs.Cases.{all_hold}
use Rattle.rulebook.proofs.cases_stand.Goals as goal

pub returns : goal.returns
returns c = all_hold
