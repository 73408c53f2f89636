-- Horner's steps on a row of codes.
use Rattle.std.proofs.Common.{◌≡◌, ℕ, suc, true, List, [], ◌∷◌, length, fold, reverse, sym, ap, ◌∙◌, subst, ap₂, arith}
use Rattle.std.proofs.lemmas.List.{reverse-append}
use Rattle.std.proofs.lemmas.Bool.{cond-true}
use Rattle.std.proofs.lemmas.List.Sums.{fold_push}
use Rattle.coefficients.specs.Arithmetic.{Arithmetic, Laws}
use Rattle.algebra.specs.Value.{value as value_of_lem, value_none, value_suc}
use Rattle.algebra.specs.Polynomial.{at, at_of}
use Rattle.polynomials.specs.Elements.{Element, element_discrete, elements, read, coefficients, past_end, polynomial}
use Rattle.polynomials.specs.Rows.{Inside}
use Rattle.polynomials.specs.Relations.{Value}
use Rattle.polynomials.specs.Steps.{Valued}
use Rattle.polynomials.proofs.Meaning.{of_polynomial, code_at}

-- the value of a row is that of as many coefficients as it has codes
pub valued_at : {K : Arithmetic} → Laws K → (l : List ℕ) (x v : ℕ) → ((laws : Laws K) → Inside K l → K.element x ≡ true → (value_of_lem (elements laws) (length l) (read laws x) (coefficients laws l)).0 ≡ v) → Valued K l x v
valued_at {K} laws l x v is hl hx = (subst (λ (n : ℕ). K.element n ≡ true) (value laws) (at (elements laws) (element_discrete K) (read laws x) (polynomial laws l)).1, value)
  where
    value : (lw : Laws K) → Value lw l x v
    value lw =
        ap (λ (b : Element K). b.0) (at_of (elements lw) (element_discrete K) (read lw x) (polynomial lw l) (coefficients lw l) (length l) (of_polynomial lw l) (past_end lw l))
        ∙ is lw hl hx

module _ (K : Arithmetic) (x : ℕ) where
  -- one more coefficient c, where v is the value so far
  abbrev pub horner_step : ℕ → ℕ → ℕ
  horner_step v c = K.sum c (K.product x v)

  pub horner_value : (laws : Laws K) (l : List ℕ) → Inside K l → K.element x ≡ true → (value_of_lem (elements laws) (length l) (read laws x) (coefficients laws l)).0 ≡ fold horner_step K.zero (reverse l)
  unfolding elements
  horner_value laws [] hl hx = ap (λ (a : Element K). a.0) (value_none (elements laws) _ _)
  horner_value laws (c ∷ l) hl hx =
      ap (λ (a : Element K). a.0) (value_suc (elements laws) (length l) (read laws x) (coefficients laws (c ∷ l)))
      ∙ ap₂ K.sum (code_at laws (c ∷ l) 0 hl (omega arith)) (ap₂ K.product (cond-true _ _ _ hx) (horner_value laws l (λ i lt. hl (suc i) (omega arith)) hx))
      ∙ sym (ap (fold horner_step K.zero) (reverse-append (c ∷ []) l) ∙ fold_push horner_step K.zero (reverse l) c)

  pub horner_valued : Laws K → (l : List ℕ) (v : ℕ) → v ≡ fold horner_step K.zero (reverse l) → Valued K l x v
  horner_valued laws l v e = valued_at laws l x v (λ lw hl hx. horner_value lw l hl hx ∙ sym e)
