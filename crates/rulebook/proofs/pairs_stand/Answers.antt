use Rattle.rulebook.proofs.Right.{pair_right}
use Rattle.rulebook.proofs.pairs_stand.Goals as goal

pub returns : goal.returns
returns g c = pair_right
