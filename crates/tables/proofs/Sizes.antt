-- Rows of a table as coefficients of x^i, and the sizes in x and in y.
use Rattle.std.proofs.Common.{get_or, ◌≡◌, ℕ, zero, suc, ◌+◌, ◌-◌, ◌*◌, ◌<◌, ◌≤◌, ◌⊎◌, List, [], length, take, drop, sym, refl, ap, ◌∙◌, subst, ap₂, inl, inr, mul_comm, mul-le-mul_left, arith, length-drop, length-take, get_or-drop, get_or-take}
use Rattle.std.proofs.lemmas.List.{drop_all}
use Rattle.std.proofs.lemmas.Bool.{cases_lt}
use Rattle.coefficients.specs.Arithmetic.{Arithmetic, Laws}
use Rattle.algebra.specs.Series.{Series}
use Rattle.algebra.specs.Polynomial.{Poly, poly_discrete, make_is, size, size_unique, Tight}
use Rattle.algebra.proofs.Degrees.{coef_zero, size_of_zero}
use Rattle.bivariate.specs.Degrees.{width}
use Rattle.bivariate.proofs.Width.{within_width, width_least}
use Rattle.polynomials.specs.Elements.{Element, element_discrete, elements, field, coefficients, polynomial, polynomials, empty_row, polynomial_xy}
use Rattle.polynomials.specs.Rows.{Inside, Sized, cut_row}
use Rattle.tables.specs.Degrees.{ZeroRow, SizedX, SizedY, SizeY}
use Rattle.polynomials.proofs.Meaning.{of_polynomial, code_at, code_zero, size_is, cleared}

-- the rows past the 16th are empty
pub row_past : (w : ℕ) (t : List ℕ) (i : ℕ) → length t ≡ 16 * w → 16 ≤ i → cut_row w t i ≡ []
row_past w t i long le =
    let more : w * 16 ≤ w * i = mul-le-mul_left w le in
    let turn : w * 16 ≡ 16 * w = mul_comm w 16 in
    ap (take w) (drop_all (w * i) t (omega arith)) ∙ none w
  where
    none : (w : ℕ) → take {A = ℕ} w [] ≡ []
    none zero = refl
    none (suc w) = refl

-- a part of a slice that is a row
pub part_row : (w i s : ℕ) (t : List ℕ) → s ≡ w * i → take (s + w - s) (drop s t) ≡ cut_row w t i
part_row w i s t e =
    let wide : s + w - s ≡ w = omega arith in
    ap₂ (λ (m n : ℕ). take m (drop n t)) wide e

pub row_length : (w : ℕ) (t : List ℕ) (i : ℕ) → length (cut_row w t i) ≤ w
row_length w t i = rw (length-take w (drop (w * i) t)) (omega arith)

-- the rows of elements are rows of elements
pub row_inside : (K : Arithmetic) (w : ℕ) (t : List ℕ) (i : ℕ) → Inside K t → Inside K (cut_row w t i)
row_inside K w t i h j l =
    let a = length-take w (drop (w * i) t) in
    let b = length-drop (w * i) t in
    ap K.element (get_or-take w (drop (w * i) t) j 0 (omega arith) ∙ get_or-drop (w * i) t j 0) ∙ h (w * i + j) (omega arith)

module _ {K : Arithmetic} (laws : Laws K) where
  -- the coefficient of x^i is what the i-th row means
  pub of_rows : (w : ℕ) (t : List ℕ) (i : ℕ) → (polynomial_xy laws w t).0 i ≡ polynomial laws (cut_row w t i)
  unfolding polynomial_xy
  of_rows w t i = ap (λ (f : Series (Poly (elements laws))). f i) (make_is (polynomials laws) (poly_discrete (elements laws) (element_discrete K)) _ _ _)

  pub of_past : (w : ℕ) (t : List ℕ) (i : ℕ) → length t ≡ 16 * w → 16 ≤ i → (polynomial_xy laws w t).0 i ≡ (polynomials laws).zero
  of_past w t i long le = of_rows w t i ∙ ap (polynomial laws) (row_past w t i long le) ∙ empty_row laws

  -- a row of elements that means zero is a row of zeros
  pub zero_codes : (l : List ℕ) → Inside K l → polynomial laws l ≡ (polynomials laws).zero → ZeroRow K l
  zero_codes l h z j lt =
      let at : coefficients laws l j ≡ (elements laws).zero = ap (λ (f : Series (Element K)). f j) (sym (of_polynomial laws l)) ∙ ap (λ (p : Poly (elements laws)). p.0 j) z ∙ coef_zero (elements laws) (element_discrete K) j in
      sym (code_at laws l j h lt) ∙ ap (λ (x : Element K). x.0) at ∙ code_zero laws

  pub size_x_is : (w : ℕ) (t : List ℕ) (n : ℕ) → length t ≡ 16 * w → SizedX K w t n → Inside K t → size (polynomials laws) (polynomial_xy laws w t) ≡ n
  size_x_is w t n long s h = size_unique (polynomials laws) A.0 _ n A.1.1.0 A.1.1.1 (λ k le. past k le (cases_lt k 16)) (tight n s)
    where
      A : Poly (polynomials laws)
      A = polynomial_xy laws w t

      past : (k : ℕ) → n ≤ k → (k < 16) ⊎ (16 ≤ k) → A.0 k ≡ (polynomials laws).zero
      past k le (inl lt) = of_rows w t k ∙ cleared laws (cut_row w t k) (s.zeros k le lt)
      past k le (inr far) = of_past w t k long far

      tight : (n : ℕ) → SizedX K w t n → Tight (polynomials laws) A.0 n
      tight zero s = tt
      tight (suc n) s = λ e.
          let i : suc n - 1 ≡ n = omega arith in
          let z : ZeroRow K (cut_row w t n) = zero_codes (cut_row w t n) (row_inside K w t n h) (sym (of_rows w t n) ∙ e) in
          s.lead (omega arith) (subst (λ (k : ℕ). ZeroRow K (cut_row w t k)) (sym i) z)

-- a row is zero where its size is 0
pub sized_zero : (K : Arithmetic) (l : List ℕ) (m : ℕ) → Sized K l m → m ≡ 0 → ZeroRow K l
sized_zero K l m s e j lt = s.zeros j (omega arith) lt

pub sized_some : (K : Arithmetic) (l : List ℕ) (m : ℕ) → Sized K l m → (m ≡ 0 → ⊥) → ZeroRow K l → ⊥
sized_some K l m s n z = let w = s.within in s.lead (omega arith) (z (m - 1) (omega arith))

module _ (K : Arithmetic) (w : ℕ) (t : List ℕ) where
  -- n is the largest of the rows' sizes
  pub sized_y : (sizes : List ℕ) (n : ℕ) → ((i : ℕ) → i < 16 → Sized K (cut_row w t i) (get_or sizes i 0)) → ((i : ℕ) → i < 16 → get_or sizes i 0 ≤ n) → (0 < n → (i : ℕ) × (i < 16) × (get_or sizes i 0 ≡ n)) → SizedY K w t n
  sized_y sizes n each below one = record {
    within = narrow (cases_lt 0 n);
    sizes = λ i lt. (get_or sizes i 0, each i lt, below i lt);
    some = some;
  }
    where
      some : 0 < n → (i : ℕ) × (i < 16) × Sized K (cut_row w t i) n
      some pos = let (i, lt, e) = one pos in (i, lt, subst (λ (m : ℕ). Sized K (cut_row w t i) m) e (each i lt))

      narrow : (0 < n) ⊎ (n ≤ 0) → n ≤ w
      narrow (inl pos) = let (i, lt, s) = some pos in let a = s.within in let b = row_length w t i in omega arith
      narrow (inr none) = omega arith

  pub size_y_is : (n : ℕ) → length t ≡ 16 * w → SizedY K w t n → SizeY K w t n
  unfolding field
  size_y_is n long s h laws only =
      let a = width_least (field laws only) (polynomial_xy laws w t) n (λ k. small k (cases_lt k 16)) in
      let b = large n s in
      omega arith
    where
      small : (k : ℕ) → (k < 16) ⊎ (16 ≤ k) → size (elements laws) ((polynomial_xy laws w t).0 k) ≤ n
      small k (inl lt) =
          let (m, z, le) = s.sizes k lt in
          let e : size (elements laws) ((polynomial_xy laws w t).0 k) ≡ m = ap (size (elements laws)) (of_rows laws w t k) ∙ size_is laws (cut_row w t k) m (row_inside K w t k h) z in
          omega arith
      small k (inr far) =
          let e : size (elements laws) ((polynomial_xy laws w t).0 k) ≡ 0 = ap (size (elements laws)) (of_past laws w t k long far) ∙ size_of_zero (elements laws) (element_discrete K) in
          omega arith

      large : (n : ℕ) → SizedY K w t n → n ≤ width (field laws only) (polynomial_xy laws w t)
      large zero s = omega arith
      large (suc n) s =
          let (k, lt, z) = s.some (omega arith) in
          let e : size (elements laws) ((polynomial_xy laws w t).0 k) ≡ suc n = ap (size (elements laws)) (of_rows laws w t k) ∙ size_is laws (cut_row w t k) (suc n) (row_inside K w t k h) z in
          let b = within_width (field laws only) (polynomial_xy laws w t) k in
          omega arith
