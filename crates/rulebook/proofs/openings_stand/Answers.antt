use Rattle.rulebook.proofs.Opening.{opening_answers}
use Rattle.rulebook.proofs.openings_stand.Goals as goal

pub returns : goal.returns
returns g c = opening_answers _ _ _
