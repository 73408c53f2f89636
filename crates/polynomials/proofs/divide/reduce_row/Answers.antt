use Rattle.polynomials.proofs.divide.reduce_row.Goals as goal

pub returns : goal.returns
returns g c = rw (← c.in_ok-new.ensures.kind, ← c.in_ok-new.ensures.row) c.reduce.ensures
