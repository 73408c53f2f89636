-- The numbers under which the rules list the refusals of a call on rows.
use Rattle.std.specs.Prelude.{ℕ}
use Rattle.coefficients.specs.Refusals.{reciprocal_refusal}
use Rattle.rules.specs.Numbers.{number, length_number, foreign_number}
use Rattle.polynomials.specs.declared.faults.RowFault.{RowFault}
use Rattle.polynomials.specs.declared.faults.RowFault.TheVariants.{Length, Foreign, Reciprocal}

abbrev pub row_number : RowFault → ℕ
row_number (Length row length) = length_number
row_number (Foreign row place code) = foreign_number
row_number (Reciprocal e) = number (reciprocal_refusal e)
