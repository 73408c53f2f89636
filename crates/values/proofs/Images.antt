-- Two unknowns: images at a point, rows times a polynomial in y, and degrees.
use Rattle.std.proofs.Common.{◌≡◌, ℕ, zero, suc, pred, ◌≤◌, List, [], ◌∷◌, length, sym, ap, ◌∙◌, ap₂, arith}
use Rattle.coefficients.specs.Arithmetic.{Arithmetic, Laws, IsField}
use Rattle.algebra.specs.Ring.{Ring}
use Rattle.algebra.specs.Lists.{All}
use Rattle.algebra.specs.Field.{Field}
use Rattle.algebra.specs.Polynomial.{Poly, poly_discrete, size}
use Rattle.algebra.specs.Change.{Poly₂, image as image-hom}
use Rattle.algebra.proofs.Degrees.{coef_zero, size_of_zero}
use Rattle.bivariate.specs.Degrees as Bivariate
use Rattle.bivariate.specs.Degrees.{Within, deg_y}
use Rattle.bivariate.proofs.Width as Width
use Rattle.polynomials.specs.Elements.{Element, element_discrete, elements, read, polynomial, polynomials}
use Rattle.values.specs.Ops.{codes, lists}
use Rattle.values.specs.Values.{width, degree_y, image, times}
use Rattle.values.specs.Meaning.{In, TrimmedY, TrimmedYx, polynomial₂, scalars}
use Rattle.values.specs.Relations.{Unique, RowImage, Multiple}
use Rattle.values.proofs.Grow.{grow, grow_image, grow_first, grow_rest}
use Rattle.values.proofs.Lists.{Reading, put_in, put_is, scale_in, scale_is, value_in, value_is, each_in, size_is, unique, one_list}
use Rattle.values.proofs.Elements.{reading_y, reading_yx}

module _ {K : Arithmetic} (laws : Laws K) where
  abbrev R : Ring (Element K)
  R = elements laws

  abbrev eq : (a b : Element K) → Dec (a ≡ b)
  eq = element_discrete K

  abbrev eq₂ : (p q : Poly R) → Dec (p ≡ q)
  eq₂ = poly_discrete R eq

  abbrev L : Reading (codes K) R eq (In K) (read laws) (polynomial laws)
  L = reading_y laws

  abbrev L₂ : Reading (lists (codes K)) (polynomials laws) eq₂ (TrimmedY K) (polynomial laws) (polynomial₂ laws)
  L₂ = reading_yx laws

  image_in : (rows : List (List ℕ)) (α : ℕ) → All (TrimmedY K) rows → In K α → TrimmedY K (image K rows α)
  image_in [] α h i = tt
  image_in (r ∷ rows) α h i = put_in L _ (image K rows α) (value_in L r α (each_in L r h.0) i) (image_in rows α h.1 i)

  image_row : (rows : List (List ℕ)) (α : ℕ) → All (TrimmedY K) rows → In K α → RowImage laws rows α (image K rows α)
  image_row [] α h i = ap (image-hom R eq (read laws α)).map L₂.none ∙ (image-hom R eq (read laws α)).map_zero ∙ sym L.none
  image_row (r ∷ rows) α h i =
      let v = each_in L r h.0 in
      ap (image-hom R eq (read laws α)).map (L₂.more r rows) ∙ grow_image R eq _ _ _
      ∙ sym (put_is L _ (image K rows α) (value_in L r α v i) ∙ ap₂ (grow R eq) (value_is L r α v i) (sym (image_row rows α h.1 i)))

  pub image_is : (rows : List (List ℕ)) (α : ℕ) → TrimmedYx K rows → In K α → Unique (TrimmedY K) (RowImage laws rows α) (image K rows α)
  image_is rows α h i =
      let all = each_in L₂ rows h in
      let inside = image_in rows α all i in
      let has = image_row rows α all i in
      record { inside = inside; has = has; only = λ l k e. one_list L l _ k inside (sym e ∙ has) }

  pub times_is : (c : List ℕ) (rows : List (List ℕ)) → TrimmedY K c → TrimmedYx K rows → Unique (TrimmedYx K) (λ a. Multiple laws a c rows) (times K c rows)
  times_is c rows h k = unique L₂ (times K c rows) (scale_in L₂ c rows h k) _ (scale_is L₂ c rows h k)

  -- degrees in y
  module _ (only : IsField K) where
    abbrev F : Field (Element K)
    F = scalars laws only

    none_size : (k : ℕ) → size R ((polynomial₂ laws []).0 k) ≡ 0
    none_size k = ap (λ (P : Poly₂ R eq). size R (P.0 k)) L₂.none ∙ ap (size R) (coef_zero (polynomials laws) eq₂ k) ∙ size_of_zero R eq

    first_size : (r : List ℕ) (rows : List (List ℕ)) → TrimmedY K r → size R ((polynomial₂ laws (r ∷ rows)).0 0) ≡ length r
    first_size r rows h = ap (λ (P : Poly₂ R eq). size R (P.0 0)) (L₂.more r rows) ∙ ap (size R) (grow_first (polynomials laws) eq₂ _ _) ∙ size_is L r h

    later_size : (r : List ℕ) (rows : List (List ℕ)) (k : ℕ) → size R ((polynomial₂ laws (r ∷ rows)).0 (suc k)) ≡ size R ((polynomial₂ laws rows).0 k)
    later_size r rows k = ap (λ (P : Poly₂ R eq). size R (P.0 (suc k))) (L₂.more r rows) ∙ ap (size R) (grow_rest (polynomials laws) eq₂ _ _ k)

    pub within_width : (rows : List (List ℕ)) → All (TrimmedY K) rows → (n : ℕ) → width rows ≤ n → Within F n (polynomial₂ laws rows)
    within_width [] h n l k = let z = none_size k in omega arith
    within_width (r ∷ rows) h n l zero = let z = first_size r rows h.0 in omega arith
    within_width (r ∷ rows) h n l (suc k) =
        let z = later_size r rows k in
        let i = within_width rows h.1 n (omega arith) k in
        omega arith

    pub width_within : (rows : List (List ℕ)) → All (TrimmedY K) rows → (n : ℕ) → Within F n (polynomial₂ laws rows) → width rows ≤ n
    width_within [] h n w = omega arith
    width_within (r ∷ rows) h n w =
        let z = first_size r rows h.0 in
        let f = w 0 in
        let i = width_within rows h.1 n (λ k. let s = later_size r rows k in let l = w (suc k) in omega arith) in
        omega arith

    -- the width is the theory's
    pub width_is : (rows : List (List ℕ)) → TrimmedYx K rows → Bivariate.width F (polynomial₂ laws rows) ≡ width rows
    width_is rows h =
        let all = each_in L₂ rows h in
        let a = Width.width_least F (polynomial₂ laws rows) (width rows) (within_width rows all (width rows) (omega arith)) in
        let b = width_within rows all (Bivariate.width F (polynomial₂ laws rows)) (Width.within_width F (polynomial₂ laws rows)) in
        omega arith

    pub degree_y_is : (rows : List (List ℕ)) → TrimmedYx K rows → deg_y F (polynomial₂ laws rows) ≡ degree_y rows
    degree_y_is rows h = ap pred (width_is rows h)
