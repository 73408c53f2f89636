-- What it means that codes stand for the elements of a ring, and what trimmed lists of codes and of rows mean.
use Rattle.std.specs.Prelude.{◌≡◌, ℕ, ◌≤◌, Bool, true, false, List, [], ◌∷◌, length, slice_index_or}
use Rattle.std.proofs.Common.{◌∙◌, ap}
use Rattle.std.proofs.lemmas.List.{get_or_past}
use Rattle.coefficients.specs.Arithmetic.{Arithmetic, Laws, IsField}
use Rattle.algebra.specs.Ring.{Ring}
use Rattle.algebra.specs.Series.{Series}
use Rattle.algebra.specs.Field.{Field}
use Rattle.algebra.specs.Polynomial.{Poly, poly_discrete, make}
use Rattle.algebra.specs.Change.{Poly₂}
use Rattle.polynomials.specs.Elements.{Element, element_discrete, elements, field, polynomial, polynomials, empty_row}
use Rattle.values.specs.Ops.{Ops, codes, lists}

-- The codes with the property In stand for the elements of the ring, one code for each, and the operations on codes are those of the ring.
pub record Codes {A E : Type 0} (O : Ops A) (R : Ring E) (In : A → Type 0) (mean : A → E) : Type 0 where
  pub zero_in : In O.zero
  pub one_in : In O.one
  pub sum_in : (a b : A) → In a → In b → In (O.sum a b)
  pub difference_in : (a b : A) → In a → In b → In (O.difference a b)
  pub product_in : (a b : A) → In a → In b → In (O.product a b)
  pub zero_is : mean O.zero ≡ R.zero
  pub one_is : mean O.one ≡ R.one
  pub sum_is : (a b : A) → In a → In b → mean (O.sum a b) ≡ R.add (mean a) (mean b)
  pub difference_is : (a b : A) → In a → In b → mean (O.difference a b) ≡ R.add (mean a) (R.neg (mean b))
  pub product_is : (a b : A) → In a → In b → mean (O.product a b) ≡ R.mul (mean a) (mean b)
  pub null_zero : (a : A) → In a → O.null a ≡ true → mean a ≡ R.zero
  pub null_not : (a : A) → In a → O.null a ≡ false → ¬ (mean a ≡ R.zero)
  pub one_code : (a b : A) → In a → In b → mean a ≡ mean b → a ≡ b

-- x is not null where nothing follows
abbrev pub Ends : {A : Type 0} → (A → Bool) → A → List A → Type 0
Ends null x [] = null x ≡ false
Ends null x (y ∷ ys) = Unit {0}

-- codes with the property In, and the last is not null
abbrev pub Trimmed : {A : Type 0} → (A → Bool) → (A → Type 0) → List A → Type 0
Trimmed null In [] = Unit {0}
Trimmed null In (x ∷ xs) = In x × Trimmed null In xs × Ends null x xs

module _ (K : Arithmetic) where
  -- the code of an element
  abbrev pub In : ℕ → Type 0
  In c = K.element c ≡ true

  -- elements with no zero at the end: a polynomial in y
  abbrev pub TrimmedY : List ℕ → Type 0
  TrimmedY xs = Trimmed (codes K).null In xs

  -- such rows with no zero at the end: a polynomial in x and y
  abbrev pub TrimmedYx : List (List ℕ) → Type 0
  TrimmedYx rows = Trimmed (lists (codes K)).null TrimmedY rows

module _ {K : Arithmetic} (laws : Laws K) where
  -- the coefficients that rows mean, from the constant in x up, and then zeros
  abbrev pub coefficients₂ : List (List ℕ) → Series (Poly (elements laws))
  coefficients₂ rows i = polynomial laws (slice_index_or rows i [])

  pub past_rows : (rows : List (List ℕ)) (i : ℕ) → length rows ≤ i → coefficients₂ rows i ≡ (polynomials laws).zero
  past_rows rows i le = ap (polynomial laws) (get_or_past rows i [] le) ∙ empty_row laws

  -- the polynomial in x and y that rows mean
  unfoldable pub polynomial₂ : List (List ℕ) → Poly₂ (elements laws) (element_discrete K)
  polynomial₂ rows = make (polynomials laws) (poly_discrete (elements laws) (element_discrete K)) (length rows) (coefficients₂ rows) (past_rows rows)

  module _ (only : IsField K) where
    pub zero≢one : ¬ ((elements laws).zero ≡ (elements laws).one)
    unfolding field
    zero≢one = (field laws only).zero≢one

    pub mul_inv : (a : Element K) → ¬ (a ≡ (elements laws).zero) → (elements laws).mul a ((field laws only).inv a) ≡ (elements laws).one
    unfolding field
    mul_inv = (field laws only).mul_inv

    -- the field of elements, with its ring and its equality in sight
    abbrev pub scalars : Field (Element K)
    scalars = record { ring = elements laws; inv = (field laws only).inv; discrete = element_discrete K; zero≢one = zero≢one; mul_inv = mul_inv }
