-- The checks of an opening, in their order, and the job that it makes.
use Rattle.std.specs.Prelude.{◌≡◌, ℕ, suc, ◌-◌, ◌<◌, Bool, true, false, ◌↔◌, List, [], ◌∷◌, length, Some, None, Option, ◌==◌, ◌≢◌, slice_index}
use Rattle.coefficients.specs.Arithmetic.{Arithmetic, Laws, IsField}
use Rattle.algebra.specs.Change.{poly₂}
use Rattle.polynomials.specs.Rows.{Inside, FirstForeign, Sized}
use Rattle.polynomials.specs.Elements.{element_discrete, elements, table}
use Rattle.rules.specs.declared.refusal.Table.{Table}
use Rattle.rules.specs.declared.refusal.Table.TheVariants.{A, B}
use Rattle.rules.specs.declared.refusal.Stage.TheVariants.{Opening}
use Rattle.rules.specs.declared.refusal.Refusal.{Refusal}
use Rattle.rules.specs.declared.refusal.Refusal.TheVariants.{Length, ForeignCode, Zero, NoField}
use Rattle.rules.specs.Job.{State, opened, refused}
use Rattle.values.specs.Ops.{codes, trim, lead, none}
use Rattle.rulebook.specs.Pairs.{pair_of}

-- the refusal where the test does not pass
abbrev pub unless : Bool → Refusal → Option Refusal
unless true r = None
unless false r = Some r

-- the first refusal of some checks
abbrev pub first_refusal : List (Option Refusal) → Option Refusal
first_refusal [] = None
first_refusal (Some r ∷ checks) = Some r
first_refusal (None ∷ checks) = first_refusal checks

-- the table has 256 codes
abbrev pub length_check : Table → List ℕ → Option Refusal
length_check name t = unless (length t == 256) (Length name (length t))

-- every code is an element: the first that is none is named with its place, where the places are numbered from n
abbrev pub codes_check : Arithmetic → Table → (n : ℕ) → List ℕ → Option Refusal
codes_check K name n [] = None
codes_check K name n (c ∷ t) = elim (K.element c) [ true ↦ codes_check K name (suc n) t | false ↦ Some (ForeignCode name n c) ]

-- some code is not zero
abbrev pub zero_check : Arithmetic → Table → List ℕ → Option Refusal
zero_check K name t = elim (none (trim (codes K) t)) [ true ↦ Some (Zero name) | false ↦ None ]

-- the coefficient of the leading term: the last code that is not zero
abbrev pub leading_code : Arithmetic → List ℕ → ℕ
leading_code K t = lead (codes K) (trim (codes K) t)

-- the product of c and its inverse is one
abbrev pub has_reciprocal : Arithmetic → ℕ → Bool
has_reciprocal K c = K.product c (K.inverse c) == K.one

-- the coefficient of the leading term has a reciprocal
abbrev pub lead_check : Arithmetic → List ℕ → Option Refusal
lead_check K t = let c = leading_code K t in unless (has_reciprocal K c) (NoField c Opening)

-- Why an opening is refused, or nothing where all checks pass.
unfoldable pub opening : Arithmetic → (a b : List ℕ) → Option Refusal
opening K a b = first_refusal (
    length_check A a ∷ length_check B b ∷
    codes_check K A 0 a ∷ codes_check K B 0 b ∷
    zero_check K A a ∷ zero_check K B b ∷
    lead_check K a ∷ lead_check K b ∷ [])

-- the job that an opening makes: void where it is refused
abbrev pub open_rule : Arithmetic → (a b : List ℕ) → State
open_rule K a b = elim (opening K a b) [ Some r ↦ refused r | None ↦ opened (pair_of K a b) ]

-- What an opening answers, by the first check that does not pass: the lengths, the codes from place 0, zeros, and the coefficients of the leading terms.
pub record OpeningAnswers (K : Arithmetic) (a b : List ℕ) : Type 0 where
  pub length_A : ¬ (length a ≡ 256) → opening K a b ≡ Some (Length A (length a))
  pub length_B : length a ≡ 256 → ¬ (length b ≡ 256) → opening K a b ≡ Some (Length B (length b))
  pub code_A : length a ≡ 256 → length b ≡ 256 → (place code : ℕ) → FirstForeign K a place code → opening K a b ≡ Some (ForeignCode A place code)
  pub code_B : length a ≡ 256 → length b ≡ 256 → Inside K a → (place code : ℕ) → FirstForeign K b place code → opening K a b ≡ Some (ForeignCode B place code)
  pub zero_A : length a ≡ 256 → length b ≡ 256 → Inside K a → Inside K b → Sized K a 0 → opening K a b ≡ Some (Zero A)
  pub zero_B : length a ≡ 256 → length b ≡ 256 → Inside K a → Inside K b → (m : ℕ) → Sized K a m → 0 < m → Sized K b 0 → opening K a b ≡ Some (Zero B)
  -- the leading terms of a and b stand at the places m - 1 and n - 1
  pub lead_A : length a ≡ 256 → length b ≡ 256 → Inside K a → Inside K b → (m : ℕ) → Sized K a m → 0 < m → (n : ℕ) → Sized K b n → 0 < n →
      ((r : ℕ) → K.product (slice_index a (m - 1)) r ≢ K.one) → opening K a b ≡ Some (NoField (slice_index a (m - 1)) Opening)
  pub lead_B : length a ≡ 256 → length b ≡ 256 → Inside K a → Inside K b → (m : ℕ) → Sized K a m → 0 < m → (n : ℕ) → Sized K b n → 0 < n →
      Laws K → (r : ℕ) → K.product (slice_index a (m - 1)) r ≡ K.one → ((q : ℕ) → K.product (slice_index b (n - 1)) q ≢ K.one) → opening K a b ≡ Some (NoField (slice_index b (n - 1)) Opening)
  pub opens : length a ≡ 256 → length b ≡ 256 → Inside K a → Inside K b → (m : ℕ) → Sized K a m → 0 < m → (n : ℕ) → Sized K b n → 0 < n →
      Laws K → (r : ℕ) → K.product (slice_index a (m - 1)) r ≡ K.one → (q : ℕ) → K.product (slice_index b (n - 1)) q ≡ K.one → opening K a b ≡ None

-- The tables have 256 codes each, all of them elements, and mean polynomials that are not zero.
pub record Openable {K : Arithmetic} (laws : Laws K) (a b : List ℕ) : Type 0 where
  pub A_long : length a ≡ 256
  pub B_long : length b ≡ 256
  pub A_inside : Inside K a
  pub B_inside : Inside K b
  pub A_nonzero : ¬ (table laws a ≡ (poly₂ (elements laws) (element_discrete K)).zero)
  pub B_nonzero : ¬ (table laws b ≡ (poly₂ (elements laws) (element_discrete K)).zero)

-- Over a field an opening is refused for nothing else.
abbrev pub OpeningLaw : Arithmetic → (a b : List ℕ) → Type 0
OpeningLaw K a b = (laws : Laws K) → IsField K → (opening K a b ≡ None) ↔ Openable laws a b
