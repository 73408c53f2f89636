use Rattle.std.proofs.Common.{rules}
use Rattle.std.proofs.iter.runs.Made.{chains}
use Rattle.tables.proofs.Sizes.{sized_y, size_y_is}
use Rattle.tables.proofs.rows.Rows.size_y.Goals as goal

pub returns-clause-codes : goal.returns-clause-codes
returns-clause-codes g c = sized_y _ _ _ c.sizes.result c.unwrap_or.result c.sizes.ensures (search (rules, chains)) (search (rules, chains))

pub returns-clause-size : goal.returns-clause-size
returns-clause-size g c = size_y_is _ _ _ _ c.args.self.now.sixteen (returns-clause-codes g c)
