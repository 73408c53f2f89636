-- What two rows share, by the polynomials that they mean.
use Rattle.std.specs.Prelude.{◌≡◌, ℕ, List, Ok, Err, Result}
use Rattle.coefficients.specs.Arithmetic.{Arithmetic, Laws, IsField}
use Rattle.polynomials.specs.Elements.{polynomial, polynomials}
use Rattle.polynomials.specs.Relations.{MonicGcd}
use Rattle.polynomials.specs.Rows.{Inside, Sized}
use Rattle.tables.specs.declared.faults.DivisionFault.{DivisionFault}
use Rattle.steps.specs.declared.factored.Factored.{Factored}
use Rattle.steps.specs.declared.share.Shares.{Shares}
use Rattle.steps.specs.Factored.{ElementsIn}
use Rattle.steps.specs.Faults.{Faulty}

module _ {K : Arithmetic} (laws : Laws K) where
  open polynomials laws use {zero as 𝟘, mul as ◌⊙◌}

  infixl 70 ◌⊙◌
  -- the monic greatest common divisor, which is not zero, and the cofactors
  pub record Shared (a b : List ℕ) (f : Factored 16) : Type 0 where
    pub gcd : MonicGcd laws a b f.divisor
    pub nonzero : ¬ (polynomial laws f.divisor ≡ 𝟘)
    pub left : polynomial laws a ≡ polynomial laws f.divisor ⊙ polynomial laws f.left
    pub right : polynomial laws b ≡ polynomial laws f.divisor ⊙ polynomial laws f.right

pub record SharesOf (K : Arithmetic) (a b : List ℕ) (s : Shares) : Type 0 where
  pub elements : ElementsIn K s.rows
  pub sized : Sized K s.rows.divisor s.size
  pub shared : (laws : Laws K) → Shared laws a b s.rows

-- `share`: over a field it is refused only where the first row is zero
abbrev pub Sharing : Arithmetic → (a b : List ℕ) → Result Shares DivisionFault → Type 0
Sharing K a b (Ok s) = Inside K a → Inside K b → SharesOf K a b s
Sharing K a b (Err e) = Inside K a → Inside K b → (IsField K → (laws : Laws K) → ¬ (polynomial laws a ≡ (polynomials laws).zero)) → Faulty K e
