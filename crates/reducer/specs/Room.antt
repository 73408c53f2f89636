-- How many points a job holds, and how many offers it has counted.
use Rattle.std.specs.Prelude.{ℕ, ◌+◌}
use Rattle.rules.specs.declared.counts.Counts.{Counts}
use Rattle.reducer.specs.declared.standing.Standing.{Standing}
use Rattle.reducer.specs.declared.standing.Standing.TheVariants.{Gathering, Settled, Void}

-- the places that a job needs while it gathers: one more than it holds
abbrev pub wanted : Standing → (held : ℕ) → ℕ
wanted Gathering held = held + 1
wanted Settled held = 0
wanted (Void r) held = 0

-- the sum of the classes
abbrev pub classes : Counts → ℕ
classes c = c.foreign + c.repeated + c.vanishing + c.high + c.late + c.dropped + c.held
