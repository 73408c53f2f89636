-- What is proved of the values, for every kind of coefficient: each is trimmed, has the relation that the theory has, and is the only trimmed list that has it.
use Rattle.std.specs.Prelude.{◌≡◌, ℕ, ◌↔◌, List, [], length}
use Rattle.coefficients.specs.Arithmetic.{Arithmetic, Laws, IsField}
use Rattle.algebra.specs.Divisors.{Divides}
use Rattle.algebra.specs.Lead as Algebra
use Rattle.algebra.specs.Lists.{All, Distinct}
use Rattle.algebra.specs.Polynomial.{size}
use Rattle.algebra.specs.Change.{poly₂, number}
use Rattle.bivariate.specs.Degrees.{deg, deg_x, deg_y}
use Rattle.polynomials.specs.Rows.{Inside, Sized}
use Rattle.polynomials.specs.Elements.{element_discrete, elements, read, polynomial, polynomials, table}
use Rattle.polynomials.specs.Relations.{Value, Image, Quotient, NormalOf, MonicGcd}
use Rattle.values.specs.Ops.{Ops, codes, lists, trim, scale, lead, value, degree}
use Rattle.values.specs.Values.{degree_x, degree_y, image, times, monic, divide, quotient, gcd, over, content, primitive, quotient_x, lead_gcd, interpolate, join}
use Rattle.values.specs.Tables.{Fits, rows, table_of}
use Rattle.values.specs.Meaning.{Codes, In, TrimmedY, TrimmedYx, polynomial₂, scalars}
use Rattle.values.specs.Relations.{Unique, Exact, RowImage, Multiple, Factors, ThroughValues, ThroughImages, ContentOf, GcdOfLeads}

module _ {K : Arithmetic} (laws : Laws K) where
  abbrev O : Ops ℕ
  O = codes K

  open polynomials laws use {mul as ◌⊙◌}

  infixl 70 ◌⊙◌
  -- over every kind
  pub record RingValues : Type 0 where
    -- codes, trimmed lists and trimmed rows stand for the elements, the polynomials in y and those in x and y
    pub elements_are : Codes O (elements laws) (In K) (read laws)
    pub polynomials_are : Codes (lists O) (polynomials laws) (TrimmedY K) (polynomial laws)
    pub polynomials₂_are : Codes (lists (lists O)) (poly₂ (elements laws) (element_discrete K)) (TrimmedYx K) (polynomial₂ laws)
    -- trimmed are rows of elements that are as long as their size
    pub trimmed_is : (xs : List ℕ) → TrimmedY K xs ↔ (Inside K xs × Sized K xs (length xs))
    pub trim_is : (xs : List ℕ) → Inside K xs → Unique (TrimmedY K) (λ l. polynomial laws l ≡ polynomial laws xs) (trim O xs)
    pub scale_is : (c : ℕ) (xs : List ℕ) → In K c → TrimmedY K xs → Unique (TrimmedY K) (λ l. polynomial laws l ≡ number (elements laws) (element_discrete K) (read laws c) ⊙ polynomial laws xs) (scale O c xs)
    pub lead_is : (xs : List ℕ) → TrimmedY K xs → Unique (In K) (λ c. read laws c ≡ Algebra.lead (elements laws) (polynomial laws xs)) (lead O xs)
    pub value_is : (xs : List ℕ) (a : ℕ) → Inside K xs → In K a → Unique (In K) (Value laws xs a) (value O xs a)
    pub size_is : (xs : List ℕ) → TrimmedY K xs → size (elements laws) (polynomial laws xs) ≡ length xs
    pub size_x_is : (a : List (List ℕ)) → TrimmedYx K a → size (polynomials laws) (polynomial₂ laws a) ≡ length a
    pub lead_x_is : (a : List (List ℕ)) → TrimmedYx K a → Unique (TrimmedY K) (λ l. polynomial laws l ≡ Algebra.lead (polynomials laws) (polynomial₂ laws a)) (lead (lists O) a)
    pub image_is : (a : List (List ℕ)) (α : ℕ) → TrimmedYx K a → In K α → Unique (TrimmedY K) (RowImage laws a α) (image K a α)
    pub times_is : (c : List ℕ) (a : List (List ℕ)) → TrimmedY K c → TrimmedYx K a → Unique (TrimmedYx K) (λ b. Multiple laws b c a) (times K c a)

  -- tables of elements, and rows that fit into one
  pub record TableValues : Type 0 where
    pub rows_are : (t : List ℕ) → length t ≡ 256 → Inside K t → Unique (TrimmedYx K) (λ a. polynomial₂ laws a ≡ table laws t) (rows K t)
    pub rows_fit : (t : List ℕ) → Fits (rows K t)
    pub table_in : (a : List (List ℕ)) → TrimmedYx K a → (length (table_of K a) ≡ 256) × Inside K (table_of K a)
    pub rows_of_table : (a : List (List ℕ)) → TrimmedYx K a → Fits a → rows K (table_of K a) ≡ a
    pub table_of_rows : (t : List ℕ) → length t ≡ 256 → table_of K (rows K t) ≡ t
    pub table_is : (a : List (List ℕ)) → TrimmedYx K a → Fits a → table laws (table_of K a) ≡ polynomial₂ laws a
    -- a row that is the image of a table holds the image of its rows
    pub image_row : (t : List ℕ) (α : ℕ) (l : List ℕ) → length t ≡ 256 → Inside K t → In K α → Inside K l → Image laws t α l → trim O l ≡ image K (rows K t) α

  -- over every field
  pub record FieldValues (only : IsField K) : Type 0 where
    pub degree_is : (xs : List ℕ) → TrimmedY K xs → deg (scalars laws only) (polynomial laws xs) ≡ degree xs
    pub degree_x_is : (a : List (List ℕ)) → TrimmedYx K a → deg_x (scalars laws only) (polynomial₂ laws a) ≡ degree_x a
    pub degree_y_is : (a : List (List ℕ)) → TrimmedYx K a → deg_y (scalars laws only) (polynomial₂ laws a) ≡ degree_y a
    -- one unknown
    pub monic_is : (xs : List ℕ) → TrimmedY K xs → Unique (TrimmedY K) (NormalOf laws xs) (monic K xs)
    pub divide_is : (xs ys : List ℕ) → TrimmedY K xs → TrimmedY K ys → ¬ (ys ≡ []) → Unique (λ (d : List ℕ × List ℕ). TrimmedY K d.0 × TrimmedY K d.1) (λ d. Quotient laws xs ys d.0 d.1) (divide K xs ys)
    pub quotient_is : (xs ys : List ℕ) → TrimmedY K xs → TrimmedY K ys → ¬ (ys ≡ []) → Divides (polynomials laws) (polynomial laws ys) (polynomial laws xs) → Unique (TrimmedY K) (Exact laws xs ys) (quotient K xs ys)
    pub gcd_is : (xs ys : List ℕ) → TrimmedY K xs → TrimmedY K ys → Unique (TrimmedY K) (MonicGcd laws xs ys) (gcd K xs ys)
    pub interpolate_is : (ps vs : List ℕ) → length ps ≡ length vs → Inside K ps → Inside K vs → Distinct ps → Unique (TrimmedY K) (ThroughValues laws ps vs) (interpolate K ps vs)
    -- two unknowns
    pub content_is : (a : List (List ℕ)) → TrimmedYx K a → ¬ (a ≡ []) → Unique (λ (d : List ℕ × List (List ℕ)). TrimmedY K d.0 × TrimmedYx K d.1) (λ d. ContentOf laws only a d.0 d.1) (content K a, primitive K a)
    pub over_is : (c : List ℕ) (a : List (List ℕ)) → TrimmedY K c → TrimmedYx K a → ¬ (c ≡ []) → All (λ r. Divides (polynomials laws) (polynomial laws c) (polynomial laws r)) a → Unique (TrimmedYx K) (Multiple laws a c) (over K c a)
    pub quotient_x_is : (a b : List (List ℕ)) → TrimmedYx K a → TrimmedYx K b → ¬ (b ≡ []) → Divides (poly₂ (elements laws) (element_discrete K)) (polynomial₂ laws b) (polynomial₂ laws a) → Unique (TrimmedYx K) (Factors laws a b) (quotient_x K a b)
    pub lead_gcd_is : (a b : List (List ℕ)) → TrimmedYx K a → TrimmedYx K b → ¬ (a ≡ []) → ¬ (b ≡ []) → Unique (TrimmedY K) (GcdOfLeads laws only a b) (lead_gcd K a b)
    pub join_is : (ps : List ℕ) (vs : List (List ℕ)) → length ps ≡ length vs → Inside K ps → All (TrimmedY K) vs → Distinct ps → Unique (TrimmedYx K) (ThroughImages laws only ps vs) (join K ps vs)
    -- rows with the relations, which may have zeros at the end, hold the values
    pub monic_row : (f d : List ℕ) → Inside K f → Inside K d → NormalOf laws f d → trim O d ≡ monic K (trim O f)
    pub divide_row : (f g q r : List ℕ) → Inside K f → Inside K g → Inside K q → Inside K r → Quotient laws f g q r → (trim O q, trim O r) ≡ divide K (trim O f) (trim O g)
    pub gcd_row : (a b d : List ℕ) → Inside K a → Inside K b → Inside K d → MonicGcd laws a b d → trim O d ≡ gcd K (trim O a) (trim O b)

-- the values over a kind
abbrev pub Values : Arithmetic → Type 0
Values K = (laws : Laws K) → RingValues laws × TableValues laws × ((only : IsField K) → FieldValues laws only)
