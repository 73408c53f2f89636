-- Rows of 16 codes, one of them written.
use Rattle.std.specs.Prelude.{◌≡◌, ℕ, List}
use Rattle.polynomials.specs.Rows.{cut_row}
use Rattle.steps.specs.declared.factored.Factored.{Factored}

-- the row at a place is written, and the others stand
pub record Placed (before : List ℕ) (place : ℕ) (row : List ℕ) (after : List ℕ) : Type 0 where
  pub here : cut_row 16 after place ≡ row
  pub others : (i : ℕ) → ¬ (i ≡ place) → cut_row 16 after i ≡ cut_row 16 before i

-- .. in the rows of all three
pub record Written (before : Factored 496) (place : ℕ) (rows : Factored 16) (after : Factored 496) : Type 0 where
  pub divisor : Placed before.divisor place rows.divisor after.divisor
  pub left : Placed before.left place rows.left after.left
  pub right : Placed before.right place rows.right after.right
