-- Faults that a field never gives.
use Rattle.std.specs.Prelude.{◌≡◌, ℕ, true, ◌≢◌}
use Rattle.coefficients.specs.Arithmetic.{Arithmetic, IsField}
use Rattle.coefficients.specs.declared.kind.ReciprocalFault.TheVariants.{NoReciprocal}
use Rattle.tables.specs.declared.faults.DivisionFault.{DivisionFault}
use Rattle.tables.specs.declared.faults.DivisionFault.TheVariants.{Reciprocal, Uneven}

-- the kind is no field: an element has no reciprocal, or a division did not come out even
abbrev pub Faulty : Arithmetic → DivisionFault → Type 0
Faulty K (Reciprocal e) = (IsField K → ⊥) × ((c : ℕ) × (e ≡ NoReciprocal c) × (K.element c ≡ true) × ((r : ℕ) → K.product c r ≢ K.one))
Faulty K Uneven = IsField K → ⊥
