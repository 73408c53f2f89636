use Rattle.tables.proofs.Leads.{shared_leads}
use Rattle.tables.proofs.lead.lead_gcd.Goals as goal

pub returns : goal.returns
returns g c = shared_leads _ _ _ _ _ _ _ _ c.lead_row.ensures (rw c.requires.width at c.lead_row-2.ensures) c.gcd_row.result c.gcd_row.ensures
