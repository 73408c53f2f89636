-- The codes of a kind stand for its elements, lists of codes are read as polynomials in y, and lists of rows as polynomials in x and y.
use Rattle.std.proofs.Common.{◌≡◌, ℕ, zero, suc, ◌-◌, Bool, true, false, eqb, ◌↔◌, List, [], ◌∷◌, length, get_or, sym, refl, ap, ◌∙◌, ap₂, zero-le, arith}
use mathlib.Core.Path.{fun_ext}
use Rattle.std.proofs.lemmas.Bool.{cond-true, eqb-true, eqb-false}
use Rattle.coefficients.specs.Arithmetic.{Arithmetic, Laws, IsField}
use Rattle.algebra.specs.Lists.{All}
use Rattle.algebra.specs.Series.{at_zero}
use Rattle.algebra.specs.Polynomial.{poly_discrete, make_is, same, of_zero}
use Rattle.algebra.specs.Change.{poly₂}
use Rattle.polynomials.specs.Rows.{Inside, Sized}
use Rattle.polynomials.specs.Elements.{Element, element_same, element_discrete, elements, read, polynomial, polynomials, empty_row}
use Rattle.polynomials.proofs.Meaning.{of_polynomial, code_zero, code_one, code_mul, code_sub}
use Rattle.values.specs.Ops.{codes, lists}
use Rattle.values.specs.Meaning.{Codes, In, TrimmedY, coefficients₂, past_rows, polynomial₂}
use Rattle.values.proofs.Grow.{grow, as_grow}
use Rattle.values.proofs.Lists.{Reading, lists_codes}

module _ {K : Arithmetic} (laws : Laws K) where
  pub read_is : (c : ℕ) → In K c → (read laws c).0 ≡ c
  read_is c h = cond-true _ _ _ h

  pub same_element : (a b : ℕ) → In K a → In K b → read laws a ≡ read laws b → a ≡ b
  same_element a b h k e = sym (read_is a h) ∙ ap (λ (x : Element K). x.0) e ∙ read_is b k

  code_add : (a b : Element K) → ((elements laws).add a b).0 ≡ K.sum a.0 b.0
  unfolding elements
  code_add a b = refl

  pub elements_codes : Codes (codes K) (elements laws) (In K) (read laws)
  elements_codes = record {
    zero_in = laws.zero_in;
    one_in = laws.one_in;
    sum_in = λ a b h k. laws.sum_in a b;
    difference_in = λ a b h k. laws.difference_in a b;
    product_in = λ a b h k. laws.product_in a b;
    zero_is = element_same K (read_is _ laws.zero_in ∙ sym (code_zero laws));
    one_is = element_same K (read_is _ laws.one_in ∙ sym (code_one laws));
    sum_is = λ a b h k. element_same K (read_is _ (laws.sum_in a b) ∙ sym (code_add (read laws a) (read laws b) ∙ ap₂ K.sum (read_is a h) (read_is b k)));
    difference_is = λ a b h k. element_same K (read_is _ (laws.difference_in a b) ∙ sym (code_sub laws (read laws a) (read laws b) ∙ ap₂ K.difference (read_is a h) (read_is b k)));
    product_is = λ a b h k. element_same K (read_is _ (laws.product_in a b) ∙ sym (code_mul laws (read laws a) (read laws b) ∙ ap₂ K.product (read_is a h) (read_is b k)));
    null_zero = λ a h e. element_same K (read_is a h ∙ eqb-true a _ e ∙ sym (code_zero laws));
    null_not = λ a h e z. eqb-false a _ e (sym (read_is a h) ∙ ap (λ (x : Element K). x.0) z ∙ code_zero laws);
    one_code = same_element;
  }

  -- where only zero lacks a reciprocal, `inverse` answers one
  module _ (only : IsField K) (a : ℕ) (h : In K a) (n : ¬ (read laws a ≡ (elements laws).zero)) where
    a_nonzero : a ≡ K.zero → ⊥
    a_nonzero z = n (element_same K (read_is a h ∙ z ∙ sym (code_zero laws)))

    pub inverse_in : In K (K.inverse a)
    inverse_in = let (r, k, e) = only a h a_nonzero in laws.inverse_in a r e

    pub inverse_is : (elements laws).mul (read laws a) (read laws (K.inverse a)) ≡ (elements laws).one
    inverse_is =
        let (r, k, e) = only a h a_nonzero in
        element_same K (code_mul laws (read laws a) (read laws (K.inverse a)) ∙ ap₂ K.product (read_is a h) (read_is _ inverse_in) ∙ laws.inverse_of a r e ∙ sym (code_one laws))

  -- lists and rows
  pub reading_y : Reading (codes K) (elements laws) (element_discrete K) (In K) (read laws) (polynomial laws)
  reading_y = record { codes = elements_codes; none = empty_row laws; more = more }
    where
      more : (x : ℕ) (xs : List ℕ) → polynomial laws (x ∷ xs) ≡ grow (elements laws) (element_discrete K) (read laws x) (polynomial laws xs)
      more x xs = as_grow (elements laws) (element_discrete K) (read laws x) (polynomial laws xs) (polynomial laws (x ∷ xs)) (ap (λ f. f 0) (of_polynomial laws (x ∷ xs))) (λ k. ap (λ f. f (suc k)) (of_polynomial laws (x ∷ xs)) ∙ sym (ap (λ f. f k) (of_polynomial laws xs)))

  pub of_polynomial₂ : (rows : List (List ℕ)) → (polynomial₂ laws rows).0 ≡ coefficients₂ laws rows
  unfolding polynomial₂
  of_polynomial₂ rows = make_is (polynomials laws) (poly_discrete (elements laws) (element_discrete K)) _ _ _

  pub reading_yx : Reading (lists (codes K)) (polynomials laws) (poly_discrete (elements laws) (element_discrete K)) (TrimmedY K) (polynomial laws) (polynomial₂ laws)
  reading_yx = record { codes = lists_codes reading_y; none = none; more = more }
    where
      none : polynomial₂ laws [] ≡ (poly₂ (elements laws) (element_discrete K)).zero
      none = same (polynomials laws) (poly_discrete (elements laws) (element_discrete K)) (of_polynomial₂ [] ∙ fun_ext (λ k. past_rows laws [] k zero-le ∙ sym (at_zero (polynomials laws) k)) ∙ sym (of_zero (polynomials laws) (poly_discrete (elements laws) (element_discrete K))))

      more : (r : List ℕ) (rows : List (List ℕ)) → polynomial₂ laws (r ∷ rows) ≡ grow (polynomials laws) (poly_discrete (elements laws) (element_discrete K)) (polynomial laws r) (polynomial₂ laws rows)
      more r rows = as_grow (polynomials laws) (poly_discrete (elements laws) (element_discrete K)) (polynomial laws r) (polynomial₂ laws rows) (polynomial₂ laws (r ∷ rows)) (ap (λ f. f 0) (of_polynomial₂ (r ∷ rows))) (λ k. ap (λ f. f (suc k)) (of_polynomial₂ (r ∷ rows)) ∙ sym (ap (λ f. f k) (of_polynomial₂ rows)))

-- codes by place
module _ (K : Arithmetic) where
  pub inside_all : (xs : List ℕ) → Inside K xs → All (In K) xs
  inside_all [] h = tt
  inside_all (x ∷ xs) h = (h 0 (omega arith), inside_all xs (λ i l. h (suc i) (omega arith)))

  pub all_inside : (xs : List ℕ) → All (In K) xs → Inside K xs
  all_inside [] h i l = absurd (omega arith)
  all_inside (x ∷ xs) h zero l = h.0
  all_inside (x ∷ xs) h (suc i) l = all_inside xs h.1 i (omega arith)

  -- the last code is not zero
  abbrev Last : List ℕ → Type 0
  Last xs = (n : ℕ) → length xs ≡ suc n → get_or xs n 0 ≡ K.zero → ⊥

  trimmed_last : (xs : List ℕ) → TrimmedY K xs → Last xs
  trimmed_last [] h n e z = absurd (omega arith)
  trimmed_last (x ∷ []) h zero e z = eqb-false x _ h.2 z
  trimmed_last (x ∷ []) h (suc n) e z = absurd (omega arith)
  trimmed_last (x ∷ y ∷ ys) h zero e z = absurd (omega arith)
  trimmed_last (x ∷ y ∷ ys) h (suc n) e z = trimmed_last (y ∷ ys) h.1 n (omega arith) z

  last_trimmed : (xs : List ℕ) → All (In K) xs → Last xs → TrimmedY K xs
  last_trimmed [] h l = tt
  last_trimmed (x ∷ []) h l = (h.0, tt, go (eqb x K.zero) refl)
    where
      go : (b : Bool) → eqb x K.zero ≡ b → eqb x K.zero ≡ false
      go true e = absurd (l 0 refl (eqb-true x _ e))
      go false e = e
  last_trimmed (x ∷ y ∷ ys) h l = (h.0, last_trimmed (y ∷ ys) h.1 (λ n e z. l (suc n) (omega arith) z), tt)

  trimmed_all : (xs : List ℕ) → TrimmedY K xs → All (In K) xs
  trimmed_all [] h = tt
  trimmed_all (x ∷ xs) h = (h.0, trimmed_all xs h.1)

  pub trimmed_is : (xs : List ℕ) → TrimmedY K xs ↔ (Inside K xs × Sized K xs (length xs))
  trimmed_is xs = (λ h. (all_inside xs (trimmed_all xs h), sized h), λ h. last_trimmed xs (inside_all xs h.0) (λ n e z. h.1.lead (omega arith) (let i : length xs - 1 ≡ n = omega arith in ap (λ j. get_or xs j 0) i ∙ z)))
    where
      sized : TrimmedY K xs → Sized K xs (length xs)
      sized h = record { within = omega arith; zeros = λ i le lt. absurd (omega arith); lead = λ pos z. trimmed_last xs h (length xs - 1) (omega arith) z }
