use Rattle.std.proofs.Common.{arith}
use Rattle.reducer.proofs.Places.{placed}
use Rattle.reducer.proofs.held.put_row.Goals as goal

pub returns : goal.returns
returns c = rw c.copy_from_slice.ensures.after (placed c.args.rows.now c.args.row.now c.args.place _ (omega arith) (omega arith) c.told-row (omega arith))
