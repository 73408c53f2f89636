-- Divisors, units, coprime elements and greatest common divisors in a commutative ring.
use Rattle.std.specs.Prelude.{◌≡◌}
use Rattle.algebra.specs.Ring.{Ring}

module _ {E : Type 0} (R : Ring E) where
  open R use {one as 𝟙, add as ◌⊕◌, mul as ◌⊙◌}

  infixl 60 ◌⊕◌
  infixl 70 ◌⊙◌
  -- b is a multiple of a
  abbrev pub Divides : E → E → Type 0
  Divides a b = (q : E) × (b ≡ a ⊙ q)

  -- a unit: a divisor of one
  abbrev pub Invertible : E → Type 0
  Invertible a = Divides a 𝟙

  -- each divides the other
  abbrev pub Associates : E → E → Type 0
  Associates a b = Divides a b × Divides b a

  -- one is a combination of a and b
  abbrev pub Coprime : E → E → Type 0
  Coprime a b = (u : E) × (v : E) × (𝟙 ≡ u ⊙ a ⊕ v ⊙ b)

  -- g is a common divisor of a and b that every common divisor divides
  pub record Greatest (a b g : E) : Type 0 where
    pub left : Divides g a
    pub right : Divides g b
    pub greatest : (x : E) → Divides x a → Divides x b → Divides x g

  -- a greatest common divisor of a and b that is a combination of them
  pub record Combined (a b : E) : Type 0 where
    pub gcd : E
    pub greatest : Greatest a b gcd
    pub u : E
    pub v : E
    pub combined : gcd ≡ u ⊙ a ⊕ v ⊙ b
