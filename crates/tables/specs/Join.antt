-- Rows joined at points: the polynomials in y that have given values there.
use Rattle.std.specs.Prelude.{◌≡◌, ℕ, ◌<◌, ◌≤◌, true, List, length, Ok, Err, Result, ◌≢◌, slice_index}
use Rattle.coefficients.specs.Arithmetic.{Arithmetic, Laws, IsField}
use Rattle.coefficients.specs.declared.kind.ReciprocalFault.{ReciprocalFault}
use Rattle.coefficients.specs.declared.kind.ReciprocalFault.TheVariants.{NoReciprocal}
use Rattle.algebra.specs.Polynomial.{size}
use Rattle.algebra.specs.Change.{number, linear, image}
use Rattle.algebra.specs.Lists.{Distinct}
use Rattle.polynomials.specs.Rows.{Inside, cut_row}
use Rattle.polynomials.specs.Elements.{Element, element_discrete, elements, read, polynomial, polynomials, polynomial_xy}
use Rattle.polynomials.specs.Relations.{Value}

module _ {K : Arithmetic} (laws : Laws K) where
  open polynomials laws use {add as ◌⊕◌, neg as ⊖◌, mul as ◌⊙◌}

  infixl 60 ◌⊕◌
  infixl 70 ◌⊙◌
  infix 80 ⊖◌
  -- the 16 rows of 32 codes t have degree below the number of points ps in y, and at each point they are the row of vs there
  pub record Joined (ps vs t : List ℕ) : Type 0 where
    pub small : (i : ℕ) → i < 16 → size (elements laws) (polynomial laws (cut_row 32 t i)) ≤ length ps
    pub meets : (k : ℕ) → k < length ps → (image (elements laws) (element_discrete K) (read laws (slice_index ps k))).map (polynomial_xy laws 32 t) ≡ polynomial laws (cut_row 16 vs k)

  -- g is f less a multiple of m, and its value at x is v
  pub record Corrected (m f : List ℕ) (x v : ℕ) (g : List ℕ) : Type 0 where
    pub by : Element K
    pub is : polynomial laws g ≡ polynomial laws f ⊕ ⊖ (number (elements laws) (element_discrete K) by ⊙ polynomial laws m)
    pub value : Value laws g x v

  -- m' is y − x times m
  abbrev pub TimesLinear : (m : List ℕ) (x : ℕ) (m' : List ℕ) → Type 0
  TimesLinear m x m' = polynomial laws m' ≡ linear (elements laws) (element_discrete K) (read laws x) ⊙ polynomial laws m

-- `join`: the points ps and the rows vs at them, joined in t. Over a field different points are never refused
abbrev pub Joining : Arithmetic → (ps vs t : List ℕ) → Result (Unit {0}) ReciprocalFault → Type 0
Joining K ps vs t (Ok u) = Inside K ps → Inside K vs → Inside K t × ((laws : Laws K) → Joined laws ps vs t)
Joining K ps vs t (Err e) = Inside K ps → Inside K vs → Inside K t × ((c : ℕ) × (e ≡ NoReciprocal c) × (K.element c ≡ true) × ((r : ℕ) → K.product c r ≢ K.one) × (IsField K → Distinct ps → ⊥))

-- `correct`: each of the 16 rows of 32 codes f becomes one of t, less a multiple of m, with the code of vs for its value at x. The fault names the value of m there
abbrev pub Correction : Arithmetic → (m : List ℕ) (x : ℕ) (vs f t : List ℕ) → Result (Unit {0}) ReciprocalFault → Type 0
Correction K m x vs f t (Ok u) = Inside K m → K.element x ≡ true → Inside K vs → Inside K f → Inside K t × ((laws : Laws K) (i : ℕ) → i < 16 → Corrected laws m (cut_row 32 f i) x (slice_index vs i) (cut_row 32 t i))
Correction K m x vs f t (Err e) = (t ≡ f) × (Inside K m → K.element x ≡ true → (c : ℕ) × (e ≡ NoReciprocal c) × (K.element c ≡ true) × ((r : ℕ) → K.product c r ≢ K.one) × ((laws : Laws K) → Value laws m x c))

-- `correct_row`: f becomes g, where i is the reciprocal of the value of m at x
abbrev pub Corrects : Arithmetic → (m : List ℕ) (x i v : ℕ) (f g : List ℕ) → Type 0
Corrects K m x i v f g = Inside K m → Inside K f → K.element x ≡ true → K.element i ≡ true → K.element v ≡ true → Inside K g × ((laws : Laws K) (w : ℕ) → Value laws m x w → K.product w i ≡ K.one → Corrected laws m f x v g)

-- `grow`: m becomes m', which is y − x times m if the row has a place for one more coefficient
abbrev pub Grows : Arithmetic → (m : List ℕ) (x : ℕ) (m' : List ℕ) → Type 0
Grows K m x m' = Inside K m → K.element x ≡ true → Inside K m' × ((laws : Laws K) → size (elements laws) (polynomial laws m) < length m → TimesLinear laws m x m')
