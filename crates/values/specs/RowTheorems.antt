-- Rows of any width, which may have zeros at the end: those that have a relation of `tables` hold the values, for every kind.
use Rattle.std.specs.Prelude.{◌≡◌, ℕ, ◌*◌, List, length}
use Rattle.coefficients.specs.Arithmetic.{Arithmetic, Laws, IsField}
use Rattle.algebra.specs.Lists.{Distinct}
use Rattle.polynomials.specs.Rows.{Inside}
use Rattle.polynomials.specs.Elements.{polynomial_xy}
use Rattle.tables.specs.Content.{Parted, Multiple as Evenly}
use Rattle.tables.specs.Lead.{LeadOf, LeadGcd}
use Rattle.tables.specs.Scale.{Times}
use Rattle.tables.specs.Exact.{MultipleOf}
use Rattle.tables.specs.Join.{Joined}
use Rattle.values.specs.Ops.{Ops, codes, lists, trim, lead}
use Rattle.values.specs.Values.{times, over, content, primitive, quotient_x, lead_gcd, join}
use Rattle.values.specs.Tables.{split, rows_of, rows}
use Rattle.values.specs.Meaning.{TrimmedYx, polynomial₂}
use Rattle.values.specs.Relations.{Unique}

module _ {K : Arithmetic} (laws : Laws K) where
  abbrev O : Ops ℕ
  O = codes K

  -- 16 rows of w elements
  abbrev pub Sixteen : (w : ℕ) → List ℕ → Type 0
  Sixteen w t = (length t ≡ 16 * w) × Inside K t

  -- over any kind
  pub record RowValues : Type 0 where
    pub rows_of_are : (w : ℕ) (t : List ℕ) → Sixteen w t → Unique (TrimmedYx K) (λ a. polynomial₂ laws a ≡ polynomial_xy laws w t) (rows_of K w t)
    pub rows_by_16 : (t : List ℕ) → rows_of K 16 t ≡ rows K t
    pub lead_rows : (w : ℕ) (t l : List ℕ) → Sixteen w t → Inside K l → LeadOf laws w t l → trim O l ≡ lead (lists O) (rows_of K w t)
    pub times_rows : (w : ℕ) (t g p : List ℕ) → Sixteen w t → Inside K g → Sixteen w p → Times laws w t g p → rows_of K w p ≡ times K (trim O g) (rows_of K w t)

  -- over every field
  pub record FieldRowValues (only : IsField K) : Type 0 where
    -- 16 rows of each: s and t, their contents and what is left without them, and γ
    pub content_rows : (w : ℕ) (t d p : List ℕ) → Sixteen w t → Inside K d → Sixteen w p → Parted laws w t d p → (trim O d ≡ content K (rows_of K w t)) × (rows_of K w p ≡ primitive K (rows_of K w t))
    pub lead_gcd_rows : (w : ℕ) (s t c d a b g : List ℕ) → Sixteen w s → Sixteen w t → Inside K c → Inside K d → Sixteen w a → Sixteen w b → Inside K g → Parted laws w s c a → Parted laws w t d b → LeadGcd laws w a b g → trim O g ≡ lead_gcd K (rows_of K w s) (rows_of K w t)
    -- exact quotients by a polynomial in y, and by rows
    pub over_rows : (w : ℕ) (t g q : List ℕ) → Sixteen w t → Inside K g → Sixteen w q → Evenly laws w t g q → rows_of K w q ≡ over K (trim O g) (rows_of K w t)
    pub quotient_rows : (w : ℕ) (t b q : List ℕ) → Sixteen w t → Sixteen w b → Sixteen w q → MultipleOf laws w t b q → rows_of K w q ≡ quotient_x K (rows_of K w t) (rows_of K w b)
    -- the images vs, 16 codes at each of the points ps, joined in rows of 32 codes
    pub joined_rows : (ps vs t : List ℕ) → Inside K ps → Distinct ps → length vs ≡ 16 * length ps → Inside K vs → Sixteen 32 t → Joined laws ps vs t → rows_of K 32 t ≡ join K ps (split K 16 (length ps) vs)

-- the values that rows over a kind hold
abbrev pub RowsHold : Arithmetic → Type 0
RowsHold K = (laws : Laws K) → RowValues laws × ((only : IsField K) → FieldRowValues laws only)
