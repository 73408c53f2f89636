-- Codes of the elements of a field, and when the answers by which a job goes are those of two polynomials.
use Rattle.std.specs.Prelude.{◌≡◌, ℕ, Bool, true, ◌↔◌, List, map}
use Rattle.algebra.specs.Polynomial.{Poly, at}
use Rattle.algebra.specs.Field.{Field}
use Rattle.bivariate.specs.Degrees.{K[y][x], deg}
use Rattle.brown.specs.Prepared.{Prepared, closing_number, ceiling}
use Rattle.brown.specs.Joined.{Image, Sample, Joined, Passes}
use Rattle.rules.specs.Job.{zero_lead, image, passed, failed, Pair}

-- Some numbers are the codes of elements, one of each.
pub record Codes (E : Type 0) : Type 0 where
  -- whether a number is the code of an element
  pub element : ℕ → Bool
  pub code : E → ℕ
  pub decode : (n : ℕ) → element n ≡ true → E
  pub coded : (α : E) → element (code α) ≡ true
  pub code_decode : (n : ℕ) (h : element n ≡ true) → code (decode n h) ≡ n
  pub decode_code : (α : E) (h : element (code α) ≡ true) → decode (code α) h ≡ α

module _ {E : Type 0} (F : Field E) {A B : K[y][x] F} (p : Prepared F A B) where
  open F use {ring as K, discrete as eq}
  open p use {γ}

  -- What a job is answered, at points that it has by their codes, is so of A and B.
  pub record Right (codes : Codes E) (pair : Pair) : Type 0 where
    pub element : (n : ℕ) → pair.element n ≡ codes.element n
    -- at a point it is found that γ is zero there, or of which degree the greatest common divisor of the images is
    pub vanishes : (α : E) → (pair.at_point (codes.code α) ≡ zero_lead) ↔ (at K eq α γ ≡ K.zero)
    pub degree : (α : E) → ¬ (at K eq α γ ≡ K.zero) → (g : Poly K) → Image F p α g → pair.at_point (codes.code α) ≡ image (deg F g)
    -- what is joined at a sample of points passes the test or fails it
    pub passes : {k : ℕ} {αs : List E} → Sample F p k αs → {G* A* B* : K[y][x] F} → Joined F p αs G* A* B* → (pair.test (map codes.code αs) ≡ passed) ↔ Passes F p G* A* B*
    pub fails : {k : ℕ} {αs : List E} → Sample F p k αs → {G* A* B* : K[y][x] F} → Joined F p αs G* A* B* → (pair.test (map codes.code αs) ≡ failed) ↔ (¬ Passes F p G* A* B*)
    pub closing : pair.closing ≡ closing_number F p
    pub first_ceiling : pair.first_ceiling ≡ ceiling F p
