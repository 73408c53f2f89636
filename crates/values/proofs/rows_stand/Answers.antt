use Rattle.values.proofs.RowValues.{rows_hold}
use Rattle.values.proofs.rows_stand.Goals as goal

pub returns : goal.returns
returns g c = rows_hold _
