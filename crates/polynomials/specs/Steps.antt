-- What the steps on rows answer and leave, for every kind. A step that needs elements says what it does where the rows have them.
use Rattle.std.specs.Prelude.{◌≡◌, ℕ, zero, suc, ◌+◌, ◌-◌, ◌<◌, ◌≤◌, true, List, length, Ok, Err, Result, ◌≢◌, slice_index}
use Rattle.coefficients.specs.Arithmetic.{Arithmetic, Laws, IsField}
use Rattle.coefficients.specs.declared.kind.ReciprocalFault.{ReciprocalFault}
use Rattle.coefficients.specs.declared.kind.ReciprocalFault.TheVariants.{NoReciprocal}
use Rattle.polynomials.specs.declared.faults.RowFault.{RowFault}
use Rattle.polynomials.specs.declared.faults.RowFault.TheVariants.{Length, Foreign, Reciprocal}
use Rattle.polynomials.specs.Rows.{Inside, FirstForeign, Sized}
use Rattle.polynomials.specs.Relations.{Value, Image, Quotient, Remainder, NormalOf, MonicGcd}

-- `check_codes`: the fault names the first foreign code of the row
abbrev pub ForeignRow : Arithmetic → List ℕ → (row : ℕ) → RowFault → Type 0
ForeignRow K l row (Foreign n place code) = (n ≡ row) × FirstForeign K l place code
ForeignRow K l row (Length n length) = ⊥
ForeignRow K l row (Reciprocal e) = ⊥

-- `horner`: v is the value of the row l at x
abbrev pub Valued : Arithmetic → (l : List ℕ) (x v : ℕ) → Type 0
Valued K l x v = Inside K l → K.element x ≡ true → (K.element v ≡ true) × ((laws : Laws K) → Value laws l x v)

-- `image_row`: l is the image of the table t at α
abbrev pub Imaged : Arithmetic → (t : List ℕ) (α : ℕ) (l : List ℕ) → Type 0
Imaged K t α l = length t ≡ 256 → Inside K t → K.element α ≡ true → Inside K l × ((laws : Laws K) → Image laws t α l)

-- `lessen`: what `by` times the first `count` codes of `row`, moved up by `shift`, leaves of `before`
pub record Lessened (K : Arithmetic) (before after : List ℕ) (shift by : ℕ) (row : List ℕ) (count : ℕ) : Type 0 where
  pub inside : (j : ℕ) → j < count → slice_index after (shift + j) ≡ K.difference (slice_index before (shift + j)) (K.product by (slice_index row j))
  pub below : (i : ℕ) → i < shift → slice_index after i ≡ slice_index before i
  pub above : (i : ℕ) → shift + count ≤ i → slice_index after i ≡ slice_index before i

-- i is the reciprocal of the leading code of g, whose size is n
pub record Inverts (K : Arithmetic) (g : List ℕ) (n i : ℕ) : Type 0 where
  pub some : 0 < n
  pub lead_in : K.element (slice_index g (n - 1)) ≡ true
  pub inside : K.element i ≡ true
  pub is : K.product (slice_index g (n - 1)) i ≡ K.one

-- the leading code of a row of size n; zero of an empty one
abbrev pub leading : Arithmetic → List ℕ → ℕ → ℕ
leading K l zero = K.zero
leading K l (suc n) = slice_index l n

-- c is the leading coefficient of g, and has no reciprocal
pub record NoInverse (K : Arithmetic) (g : List ℕ) (c : ℕ) : Type 0 where
  pub size : ℕ
  pub sized : Sized K g size
  pub lead : c ≡ leading K g size
  pub inside : K.element c ≡ true
  pub none : (r : ℕ) → K.product c r ≢ K.one

-- no division by g: the fault names its leading coefficient
abbrev pub Undivided : Arithmetic → List ℕ → ReciprocalFault → Type 0
Undivided K g e = Inside K g → (c : ℕ) × (e ≡ NoReciprocal c) × NoInverse K g c

-- `Divisor::divide`: f by g, with the quotient q, and r left of f
abbrev pub Divided : Arithmetic → (f g r q : List ℕ) → Type 0
Divided K f g r q = Inside K f → Inside K g → Inside K q × Inside K r × ((laws : Laws K) → Quotient laws f g q r)

-- `divide_row`: the same, with q in place of what the quotient's row held
abbrev pub Division : Arithmetic → (f g held r q : List ℕ) → Result (Unit {0}) ReciprocalFault → Type 0
Division K f g held r q (Ok u) = Divided K f g r q
Division K f g held r q (Err e) = Undivided K g e × (r ≡ f) × (q ≡ held)

-- `Divisor::reduce`: r is left of f. On any codes its size is smaller than that of g, so that Euclid's algorithm ends
abbrev pub Reduced : Arithmetic → (f g r : List ℕ) → Type 0
Reduced K f g r = (Inside K f → Inside K g → Inside K r × ((laws : Laws K) → Remainder laws f g r)) × ((n i : ℕ) → Sized K g n → n ≤ i + 1 → i < length r → slice_index r i ≡ K.zero)

-- `reduce_row`: r is left of f
abbrev pub Reduction : Arithmetic → (f g r : List ℕ) → Result (Unit {0}) ReciprocalFault → Type 0
Reduction K f g r (Ok u) = Reduced K f g r
Reduction K f g r (Err e) = Undivided K g e × (r ≡ f)

-- `make_monic`: d is left of f, and the answer is its size
abbrev pub MadeMonic : Arithmetic → (f d : List ℕ) → Result ℕ ReciprocalFault → Type 0
MadeMonic K f d (Ok n) = Inside K f → Inside K d × Sized K d n × ((laws : Laws K) → NormalOf laws f d)
MadeMonic K f d (Err e) = (d ≡ f) × ((n : ℕ) × (0 < n) × Sized K f n × Undivided K f e)

-- c is an element other than zero that has no reciprocal, so that the kind is no field
pub record Stuck (K : Arithmetic) (c : ℕ) : Type 0 where
  pub inside : K.element c ≡ true
  pub nonzero : c ≡ K.zero → ⊥
  pub none : (r : ℕ) → K.product c r ≢ K.one
  pub no_field : IsField K → ⊥

-- `gcd_row`: d is left of a, and zeros of b; the answer is the size of d
abbrev pub Common : Arithmetic → (a b d e : List ℕ) → Result ℕ ReciprocalFault → Type 0
Common K a b d e (Ok n) = Inside K a → Inside K b → Inside K d × Inside K e × Sized K d n × ((laws : Laws K) → MonicGcd laws a b d) × Sized K e 0
Common K a b d e (Err f) = Inside K a → Inside K b → Inside K d × Inside K e × ((c : ℕ) × (f ≡ NoReciprocal c) × Stuck K c)
