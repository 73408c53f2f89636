use Rattle.tables.proofs.content.gather_row.Goals as goal

pub returns : goal.returns
returns g c = (c.gcd_row.new.b, rw c.copy_from_slice.ensures.after at c.gcd_row.ensures)
