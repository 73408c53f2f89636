-- What a call for a reciprocal answers, and what its refusals are numbered.
use Rattle.std.specs.Prelude.{◌≡◌, ℕ, true, false, Ok, Err, Result, ◌≢◌}
use Rattle.coefficients.specs.Arithmetic.{Arithmetic}
use Rattle.coefficients.specs.declared.kind.ReciprocalFault.{ReciprocalFault}
use Rattle.coefficients.specs.declared.kind.ReciprocalFault.TheVariants.{Foreign, NoReciprocal}

-- the call at a is refused: a is no element, or an element that has no reciprocal
abbrev pub Refused : Arithmetic → ℕ → ReciprocalFault → Type 0
Refused K a (Foreign c) = (c ≡ a) × (K.element a ≡ false)
Refused K a (NoReciprocal c) = (c ≡ a) × (K.element a ≡ true) × ((r : ℕ) → K.product a r ≢ K.one)

-- the answer to a call at a: an element whose product with a is one, or a refusal for want of one
abbrev pub Reciprocal : Arithmetic → ℕ → Result ℕ ReciprocalFault → Type 0
Reciprocal K a (Ok r) = (K.element a ≡ true) × (K.element r ≡ true) × (K.product a r ≡ K.one)
Reciprocal K a (Err e) = Refused K a e
