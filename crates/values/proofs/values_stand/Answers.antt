use Rattle.values.proofs.Values.{values}
use Rattle.values.proofs.values_stand.Goals as goal

pub returns : goal.returns
returns g c = values _
