-- What is left of two tables when they are prepared, by the polynomials of the theory.
use Rattle.std.specs.Prelude.{◌≡◌, ℕ, ◌+◌, ◌≤◌, List, Ok, Err, Result}
use Rattle.coefficients.specs.Arithmetic.{Arithmetic, Laws, IsField}
use Rattle.algebra.specs.Change.{poly₂}
use Rattle.bivariate.specs.Degrees.{K[y][x], deg, deg_x, deg_y}
use Rattle.bivariate.specs.TwoUnknowns.{Content}
use Rattle.brown.specs.Prepared.{Prepared, closing_number, ceiling}
use Rattle.polynomials.specs.Elements.{element_discrete, elements, polynomial, table}
use Rattle.polynomials.specs.Rows.{Inside}
use Rattle.tables.specs.declared.faults.DivisionFault.{DivisionFault}
use Rattle.values.specs.Meaning.{scalars}
use Rattle.steps.specs.Faults.{Faulty}
use Rattle.steps.specs.declared.prepare.Part.{Part}
use Rattle.steps.specs.declared.prepare.Workings.{Workings}

-- the table means a polynomial other than zero
abbrev pub Nonzero : Arithmetic → List ℕ → Type 0
Nonzero K t = (laws : Laws K) → ¬ (table laws t ≡ (poly₂ (elements laws) (element_discrete K)).zero)

-- The part of a table: over a field, the content and what is left without it, with the degrees of that.
pub record PartOf (K : Arithmetic) (t : List ℕ) (p : Part) : Type 0 where
  pub nonzero : Nonzero K t
  pub content_in : Inside K p.content
  pub rows_in : Inside K p.rows
  pub content : (laws : Laws K) (only : IsField K) → Content (scalars laws only) (table laws t) (polynomial laws p.content) (table laws p.rows)
  pub in_x : (laws : Laws K) (only : IsField K) → deg_x (scalars laws only) (table laws p.rows) ≡ p.degree_x
  pub in_y : (laws : Laws K) (only : IsField K) → deg_y (scalars laws only) (table laws p.rows) ≡ p.degree_y

-- the degrees of a table are below 16
pub record Low (p : Part) : Type 0 where
  pub in_x : p.degree_x ≤ 15
  pub in_y : p.degree_y ≤ 15

-- `part_of`: only a kind that is no field refuses, and zero
abbrev pub Parting : Arithmetic → List ℕ → Result Part DivisionFault → Type 0
Parting K t (Ok p) = Low p × (Inside K t → PartOf K t p)
Parting K t (Err e) = Inside K t → Nonzero K t → Faulty K e

module _ {K : Arithmetic} (laws : Laws K) (only : IsField K) where
  -- the workings are what the theory prepares of two tables
  pub record SameAs {A B : K[y][x] (scalars laws only)} (p : Prepared (scalars laws only) A B) (w : Workings) : Type 0 where
    pub content_A : polynomial laws w.left.content ≡ p.content_A
    pub A' : table laws w.left.rows ≡ p.A'
    pub content_B : polynomial laws w.right.content ≡ p.content_B
    pub B' : table laws w.right.rows ≡ p.B'
    pub γ : polynomial laws w.lead ≡ p.γ
    pub height_A : w.height_left ≡ deg (scalars laws only) p.γ + deg_y (scalars laws only) p.A'
    pub height_B : w.height_right ≡ deg (scalars laws only) p.γ + deg_y (scalars laws only) p.B'
    pub closing : w.closing ≡ closing_number (scalars laws only) p
    pub ceiling : w.ceiling ≡ ceiling (scalars laws only) p

-- Two tables, prepared.
pub record WorkingsOf (K : Arithmetic) (a b : List ℕ) (w : Workings) : Type 0 where
  pub A_nonzero : Nonzero K a
  pub B_nonzero : Nonzero K b
  pub content_A_in : Inside K w.left.content
  pub content_B_in : Inside K w.right.content
  pub A_in : Inside K w.left.rows
  pub B_in : Inside K w.right.rows
  pub γ_in : Inside K w.lead
  pub same : (laws : Laws K) (only : IsField K) (p : Prepared (scalars laws only) (table laws a) (table laws b)) → SameAs laws only p w

-- the closing number is at least 1 and at most 31, and the ceiling at least 1 and at most 16
pub record Narrow (w : Workings) : Type 0 where
  pub closing_some : 1 ≤ w.closing
  pub closing_few : w.closing ≤ 31
  pub ceiling_some : 1 ≤ w.ceiling
  pub ceiling_few : w.ceiling ≤ 16

-- `prepare`: over a field two tables but zero are never refused
abbrev pub Preparing : Arithmetic → (a b : List ℕ) → Result Workings DivisionFault → Type 0
Preparing K a b (Ok w) = Narrow w × (Inside K a → Inside K b → WorkingsOf K a b w)
Preparing K a b (Err e) = Inside K a → Inside K b → Nonzero K a → Nonzero K b → Faulty K e
