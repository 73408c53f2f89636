-- A row times y − x, from the constant up.
use Rattle.std.proofs.Common.{◌≡◌, ℕ, zero, suc, ◌<◌, ◌≤◌, true, ◌⊎◌, List, length, get_or, sym, ap, ◌∙◌, ap₂, inl, inr, arith}
use mathlib.Core.Path.{fun_ext}
use Rattle.std.proofs.lemmas.Bool.{cond-true, cases_lt}
use Rattle.coefficients.specs.Arithmetic.{Arithmetic, Laws}
use Rattle.algebra.specs.Ring.{Ring, ring, one_mul}
use Rattle.algebra.specs.Series.{Series, series, cons, cons_zero, cons_suc, cons_mul, at_add, at_const_mul}
use Rattle.algebra.specs.Polynomial.{size, same, of_mul}
use Rattle.algebra.specs.Change.{of_linear}
use Rattle.algebra.proofs.Degrees.{below_size}
use Rattle.polynomials.specs.Elements.{Element, element_same, element_discrete, elements, read, coefficients, past_end, polynomial}
use Rattle.polynomials.specs.Rows.{Inside}
use Rattle.tables.specs.Join.{Grows, TimesLinear}
use Rattle.polynomials.proofs.Meaning.{of_polynomial, code_zero, code_mul, code_sub, code_at}

-- the code at the place j of a row that is moved up by one place
abbrev pub raised : Arithmetic → List ℕ → ℕ → ℕ
raised K l zero = K.zero
raised K l (suc j) = get_or l j 0

-- l became l' below the place j, and the code before that place was `below`
pub record Growing (K : Arithmetic) (l : List ℕ) (x : ℕ) (l' : List ℕ) (j below : ℕ) : Type 0 where
  pub done : (k : ℕ) → k < j → get_or l' k 0 ≡ K.difference (raised K l k) (K.product x (get_or l k 0))
  pub rest : (k : ℕ) → j ≤ k → get_or l' k 0 ≡ get_or l k 0
  pub last : below ≡ raised K l j

module _ {E : Type 0} (R : Ring E) where
  open R use {zero as 𝟘, add as ◌⊕◌, neg as ⊖◌, mul as ◌⊙◌}
  open series R use {one as 𝟏, mul as ◌⊠◌}

  infixl 60 ◌⊕◌
  infixl 70 ◌⊙◌
  infix 80 ⊖◌
  infixl 70 ◌⊠◌
  linear_mul : (x : E) (f : Series E) (k : ℕ) → (cons (⊖ x) 𝟏 ⊠ f) k ≡ cons 𝟘 f k ⊕ ⊖ (x ⊙ f k)
  linear_mul x f k =
      ap (λ g. g k) (cons_mul R (⊖ x) 𝟏 f)
      ∙ at_add R _ _ k
      ∙ ap₂ ◌⊕◌ (at_const_mul R (⊖ x) f k) (ap (λ g. cons 𝟘 g k) (one_mul (series R) f))
      ∙ turned x (f k) (cons 𝟘 f k)
    where
      turned : (x a b : E) → ⊖ x ⊙ a ⊕ b ≡ b ⊕ ⊖ (x ⊙ a)
      turned x a b = simp ring

module _ {K : Arithmetic} (laws : Laws K) (l : List ℕ) (x : ℕ) (l' : List ℕ) (len : length l' ≡ length l) (done : (k : ℕ) → k < length l → get_or l' k 0 ≡ K.difference (raised K l k) (K.product x (get_or l k 0))) where
  open elements laws use {zero as 𝟘, add as ◌⊕◌, neg as ⊖◌, mul as ◌⊙◌}
  open series (elements laws) use {one as 𝟏, mul as ◌⊠◌}

  infixl 60 ◌⊕◌
  infixl 70 ◌⊙◌
  infix 80 ⊖◌
  infixl 70 ◌⊠◌
  grown_inside : Inside K l'
  grown_inside k lt = ap K.element (done k (omega arith)) ∙ laws.difference_in _ _

  grown_at : Inside K l → K.element x ≡ true → size (elements laws) (polynomial laws l) < length l → (k : ℕ) → (k < length l) ⊎ (length l ≤ k) → coefficients laws l' k ≡ cons 𝟘 (coefficients laws l) k ⊕ ⊖ (read laws x ⊙ coefficients laws l k)
  grown_at hl hx room k (inl lt) =
      element_same K
      (code_at laws l' k grown_inside (omega arith)
      ∙ done k lt
      ∙ sym (code_sub laws _ _ ∙ ap₂ K.difference (raise k lt) (code_mul laws _ _ ∙ ap₂ K.product (cond-true _ _ _ hx) (code_at laws l k hl lt))))
    where
      raise : (k : ℕ) → k < length l → (cons 𝟘 (coefficients laws l) k).0 ≡ raised K l k
      raise zero h = ap (λ (a : Element K). a.0) (cons_zero _ _) ∙ code_zero laws
      raise (suc j) h = ap (λ (a : Element K). a.0) (cons_suc _ _ j) ∙ code_at laws l j hl (omega arith)
  grown_at hl hx room zero (inr le) = absurd (omega arith)
  grown_at hl hx room (suc j) (inr le) =
      let none : coefficients laws l j ≡ 𝟘 = ap (λ f. f j) (sym (of_polynomial laws l)) ∙ below_size (elements laws) (element_discrete K) (polynomial laws l) j (omega arith) j (omega arith) in
      past_end laws l' (suc j) (omega arith)
      ∙ sym (zeros (read laws x))
      ∙ sym (ap₂ (λ a b. a ⊕ ⊖ (read laws x ⊙ b)) (cons_suc _ _ j ∙ none) (past_end laws l (suc j) le))
    where
      zeros : (a : Element K) → 𝟘 ⊕ ⊖ (a ⊙ 𝟘) ≡ 𝟘
      zeros a = simp ring

  grown_is : Inside K l → K.element x ≡ true → size (elements laws) (polynomial laws l) < length l → TimesLinear laws l x l'
  grown_is hl hx room =
      same (elements laws) (element_discrete K)
      (of_polynomial laws l'
      ∙ fun_ext (λ k. grown_at hl hx room k (cases_lt k (length l)) ∙ sym (linear_mul (elements laws) (read laws x) (coefficients laws l) k))
      ∙ sym (of_mul _ _ _ _ ∙ ap₂ ◌⊠◌ (of_linear _ _ _) (of_polynomial laws l)))

-- the end
pub grown : {K : Arithmetic} → Laws K → (l : List ℕ) (x : ℕ) (l' : List ℕ) (j b : ℕ) → length l' ≡ length l → length l ≤ j → Growing K l x l' j b → Grows K l x l'
grown laws l x l' j b len le h hl hx =
    (grown_inside laws l x l' len (λ k lt. h.done k (omega arith)), λ lw room. grown_is lw l x l' len (λ k lt. h.done k (omega arith)) hl hx room)
