-- The elements of a kind as a ring, and the polynomials that rows and tables of codes mean.
use Rattle.std.specs.Prelude.{◌≡◌, ℕ, zero, suc, ◌+◌, ◌*◌, ◌≤◌, Bool, true, false, cond, List, [], length, take, slice_index_or}
use Rattle.std.proofs.Math.Path.{refl, sym, ap, fun_ext}
use Rattle.std.proofs.Common.{◌∙◌, suc-mul, arith}
use Rattle.std.proofs.Math.Bool.{Bool-set}
use mathlib.Core.HLevel.{Discrete, Σ_prop_path, Σ_prop_discrete}
use Prim.Native.Nat.{zero-le}
use Rattle.std.proofs.Math.Decide.{ℕ_discrete}
use Rattle.std.proofs.lemmas.List.{get_or_past, drop_all}
use Rattle.coefficients.specs.Arithmetic.{Arithmetic, Laws, IsField}
use Rattle.algebra.specs.Ring.{Ring}
use Rattle.algebra.specs.Series.{Series, at_zero}
use Rattle.algebra.specs.Polynomial.{Poly, poly, poly_discrete, make, same, make_is, of_zero}
use Rattle.algebra.specs.Change.{Poly₂}
use Rattle.algebra.specs.Field.{Field}
use Rattle.polynomials.specs.Rows.{cut_row}

-- a code with the fact that it is an element
abbrev pub Element : Arithmetic → Type 0
Element K = (c : ℕ) × (K.element c ≡ true)

pub element_same : (K : Arithmetic) {a b : Element K} → a.0 ≡ b.0 → a ≡ b
element_same K = Σ_prop_path (λ c. Bool-set _ _)

pub element_discrete : (K : Arithmetic) → Discrete (Element K)
element_discrete K = Σ_prop_discrete (λ c. Bool-set _ _) ℕ_discrete

module _ {K : Arithmetic} (laws : Laws K) where
  unfoldable pub elements : Ring (Element K)
  elements = record {
    zero = (K.zero, laws.zero_in);
    one = (K.one, laws.one_in);
    add = λ a b. (K.sum a.0 b.0, laws.sum_in _ _);
    neg = λ a. (K.difference K.zero a.0, laws.difference_in _ _);
    mul = λ a b. (K.product a.0 b.0, laws.product_in _ _);
    add_assoc = λ a b c. element_same K (laws.sum_assoc _ _ _ a.1 b.1 c.1);
    add_comm = λ a b. element_same K (laws.sum_comm _ _);
    add_zero = λ a. element_same K (laws.sum_comm _ _ ∙ laws.sum_zero _ a.1);
    add_neg = λ a. element_same K (laws.sum_comm _ _ ∙ laws.less_sum _ _ laws.zero_in a.1);
    mul_assoc = λ a b c. element_same K (laws.product_assoc _ _ _ a.1 b.1 c.1);
    mul_comm = λ a b. element_same K (laws.product_comm _ _);
    mul_one = λ a. element_same K (laws.product_comm _ _ ∙ laws.product_one _ a.1);
    mul_add = λ a b c. element_same K (laws.distributes _ _ _ a.1 b.1 c.1);
  }

  -- where only zero lacks a reciprocal the elements are a field
  unfoldable pub field : IsField K → Field (Element K)
  unfolding elements
  field only = record {
    ring = elements;
    inv = λ a. reciprocal a (ℕ_discrete a.0 K.zero);
    discrete = element_discrete K;
    zero≢one = λ e. laws.apart (ap (λ (x : Element K). x.0) e);
    mul_inv = λ a n. element_same K (inverts a (ℕ_discrete a.0 K.zero) (λ e. n (element_same K e)));
  }
    where
      reciprocal : (a : Element K) → Dec (a.0 ≡ K.zero) → Element K
      reciprocal a (yes z) = a
      reciprocal a (no n) = let (r, h, e) = only a.0 a.1 n in (r, h)

      inverts : (a : Element K) (d : Dec (a.0 ≡ K.zero)) → ¬ (a.0 ≡ K.zero) → K.product a.0 (reciprocal a d).0 ≡ K.one
      inverts a (yes z) n = absurd (n z)
      inverts a (no k) n = (only a.0 a.1 k).2

  pub read_in : (c : ℕ) (b : Bool) → K.element c ≡ b → K.element (cond b c K.zero) ≡ true
  read_in c true e = e
  read_in c false e = laws.zero_in

  -- the element that a code means: zero where the code is foreign
  abbrev pub read : ℕ → Element K
  read c = (cond (K.element c) c K.zero, read_in c (K.element c) refl)

  -- the coefficients that a row of codes means, from the constant up, and then zeros
  abbrev pub coefficients : List ℕ → Series (Element K)
  coefficients l k = read (slice_index_or l k K.zero)

  pub past_end : (l : List ℕ) (k : ℕ) → length l ≤ k → coefficients l k ≡ elements.zero
  unfolding elements
  past_end l k le = ap read (get_or_past l k K.zero le) ∙ element_same K (read_zero (K.element K.zero))
    where
      read_zero : (b : Bool) → cond b K.zero K.zero ≡ K.zero
      read_zero true = refl
      read_zero false = refl

  -- the polynomial in one unknown that a row means
  unfoldable pub polynomial : List ℕ → Poly elements
  polynomial l = make elements (element_discrete K) (length l) (coefficients l) (past_end l)

  abbrev pub polynomials : Ring (Poly elements)
  polynomials = poly elements (element_discrete K)

  -- the coefficients that rows of `width` codes mean, as a polynomial in x over those in y
  abbrev pub coefficients_x : (width : ℕ) → List ℕ → Series (Poly elements)
  coefficients_x width t i = polynomial (cut_row width t i)

  pub empty_row : polynomial [] ≡ polynomials.zero
  unfolding polynomial
  empty_row = same elements (element_discrete K) (make_is elements (element_discrete K) _ _ _ ∙ fun_ext (λ k. past_end [] k zero-le ∙ sym (at_zero elements k)) ∙ sym (of_zero elements (element_discrete K)))

  pub past_rows : (width : ℕ) (t : List ℕ) (i : ℕ) → length t ≤ i → coefficients_x width t i ≡ polynomials.zero
  past_rows zero t i le = empty_row
  past_rows (suc w) t i le =
      let once : suc w * i ≡ w * i + i = suc-mul w i in
      ap (λ l. polynomial (take (suc w) l)) (drop_all (suc w * i) t (omega arith)) ∙ empty_row

  -- the polynomial in x and y that rows of `width` codes mean: the coefficient of x^i is what the i-th row means in y
  unfoldable pub polynomial_xy : (width : ℕ) → List ℕ → Poly₂ elements (element_discrete K)
  polynomial_xy width t = make polynomials (poly_discrete elements (element_discrete K)) (length t) (coefficients_x width t) (past_rows width t)

  -- .. and a table
  abbrev pub table : List ℕ → Poly₂ elements (element_discrete K)
  table t = polynomial_xy 16 t
