use Rattle.rulebook.proofs.Opening.{opening_law}
use Rattle.rulebook.proofs.Law.{law_over}
use Rattle.rulebook.proofs.law_stands.Goals as goal

pub returns : goal.returns
returns g c = record { refusals = opening_law _ _ _; law = law_over _ _ _ }
