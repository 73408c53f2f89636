use Rattle.std.proofs.Common.{◌∙◌}
use Rattle.tables.proofs.Leads.{lead_row}
use Rattle.tables.proofs.rows.Rows.lead_row.Goals as goal

pub returns : goal.returns
returns g c = rw (c.copy_from_slice.ensures.after ∙ c.row.ensures.codes) (lead_row _ _ _ _ _ c.size_x.ensures.size c.saturating_sub-last.ensures)
