-- What two polynomials share, and what each has besides, as codes.
use Rattle.std.specs.Prelude.{ℕ}
use Rattle.coefficients.specs.Arithmetic.{Arithmetic}
use Rattle.polynomials.specs.Rows.{Inside}
use Rattle.steps.specs.declared.factored.Factored.{Factored}

-- All codes are elements.
pub record ElementsIn {n : ℕ} (K : Arithmetic) (f : Factored n) : Type 0 where
  pub divisor_in : Inside K f.divisor
  pub left_in : Inside K f.left
  pub right_in : Inside K f.right
