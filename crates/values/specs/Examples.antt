-- The definitions compute: values modulo 11 and over bytes.
use Rattle.std.specs.Prelude.{◌≡◌, ℕ, List, [], ◌∷◌}
use Rattle.coefficients.specs.Arithmetic.{Arithmetic}
use Rattle.coefficients.specs.Residue.{modulo}
use Rattle.coefficients.specs.Byte.{bytes}
use Rattle.values.specs.Values.{degree_x, degree_y, image, gcd, divide, content, primitive, quotient_x, lead_gcd, interpolate, join}
use Rattle.values.specs.Tables.{rows, table_of}

abbrev pub M : Arithmetic
M = modulo 11

-- (y² + 3y) x³ + (y² + y + 2) x² + (y + 8) x
abbrev pub A : List (List ℕ)
A = [] ∷ (8 ∷ 1 ∷ []) ∷ (2 ∷ 1 ∷ 1 ∷ []) ∷ (0 ∷ 3 ∷ 1 ∷ []) ∷ []

-- (y² + 3y) x³ + y x²
abbrev pub B : List (List ℕ)
B = [] ∷ [] ∷ (0 ∷ 1 ∷ []) ∷ (0 ∷ 3 ∷ 1 ∷ []) ∷ []

-- (y + 3) x² + x, which divides both
abbrev pub G : List (List ℕ)
G = [] ∷ (1 ∷ []) ∷ (3 ∷ 1 ∷ []) ∷ []

pub record Examples : Type 0 where
  pub degrees_A : (degree_x A ≡ 3) × (degree_y A ≡ 2)
  pub content_A : content M A ≡ 1 ∷ []
  pub content_B : content M B ≡ 0 ∷ 1 ∷ []
  pub primitive_B : primitive M B ≡ [] ∷ [] ∷ (1 ∷ []) ∷ (3 ∷ 1 ∷ []) ∷ []
  pub lead_gcd_AB : lead_gcd M A B ≡ 3 ∷ 1 ∷ []
  pub image_A : image M A 2 ≡ 0 ∷ 10 ∷ 8 ∷ 10 ∷ []
  pub image_gcd : gcd M (image M A 2) (image M B 2) ≡ 0 ∷ 9 ∷ 1 ∷ []
  pub zero_gcd : gcd M [] [] ≡ []
  -- y³ + 2 by 2y + 1
  pub divided : divide M (2 ∷ 0 ∷ 0 ∷ 1 ∷ []) (1 ∷ 2 ∷ []) ≡ (7 ∷ 8 ∷ 6 ∷ [], 6 ∷ [])
  -- y² + 3 at 1, 2 and 3
  pub curve : interpolate M (1 ∷ 2 ∷ 3 ∷ []) (4 ∷ 7 ∷ 1 ∷ []) ≡ 3 ∷ 0 ∷ 1 ∷ []
  pub joined : join M (1 ∷ 2 ∷ 3 ∷ []) (image M A 1 ∷ image M A 2 ∷ image M A 3 ∷ []) ≡ A
  pub cofactor_A : quotient_x M A G ≡ (8 ∷ 1 ∷ []) ∷ (0 ∷ 1 ∷ []) ∷ []
  pub cofactor_B : quotient_x M B G ≡ [] ∷ (0 ∷ 1 ∷ []) ∷ []
  pub tabled : rows M (table_of M A) ≡ A
  -- (y + 2) (y + 3) times 0x53, and (y + 2) (y + 5)
  pub bytes_gcd : gcd bytes (0xf1 ∷ 0x53 ∷ 0x53 ∷ []) (0x0a ∷ 0x07 ∷ 0x01 ∷ []) ≡ 2 ∷ 1 ∷ []
