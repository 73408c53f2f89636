-- The value of a row from the powers of the point.
use Rattle.std.proofs.Common.{◌≡◌, ℕ, zero, suc, ◌+◌, ◌<◌, ◌≤◌, true, ◌≢◌, List, [], ◌∷◌, length, get_or, set, sym, ap, ◌∙◌, ap₂, add-zero, arith, get_or-set_other, get_or-set_same, below_more}
use Rattle.std.proofs.lemmas.Bool.{cond-true}
use Rattle.coefficients.specs.Arithmetic.{Arithmetic, Laws}
use Rattle.coefficients.specs.Dot.{dot_of}
use Rattle.algebra.specs.Ring.{Ring, mul_zero}
use Rattle.algebra.specs.Solver.{by_ring, quoting}
use Rattle.algebra.specs.Value.{value as value_of_lem, value_none, value_suc}
use Rattle.polynomials.specs.Elements.{Element, element_same, elements, read, coefficients}
use Rattle.polynomials.specs.Powers.{power_of, Powers}
use Rattle.polynomials.specs.Rows.{Inside}
use Rattle.polynomials.specs.Steps.{Valued}
use Rattle.polynomials.proofs.Meaning.{code_at}
use Rattle.polynomials.proofs.Horner.{valued_at}

module _ {E : Type 0} (R : Ring E) where
  open R use {add as ◌⊕◌, mul as ◌⊙◌}

  infixl 60 ◌⊕◌
  infixl 70 ◌⊙◌
  -- the next coefficient c, where p is the power so far
  pub gathered : (c p x v : E) → c ⊙ p ⊕ x ⊙ p ⊙ v ≡ p ⊙ (c ⊕ x ⊙ v)
  gathered c p x v = by_ring R (c ∷ p ∷ x ∷ v ∷ []) (search quoting depth 30) tt

module _ {K : Arithmetic} (laws : Laws K) (x : ℕ) where
  pub power_in : (n : ℕ) → K.element (power_of K x n) ≡ true
  unfolding power_of
  power_in zero = laws.one_in
  power_in (suc n) = laws.product_in _ _

  power : ℕ → Element K
  power n = (power_of K x n, power_in n)

  module _ (hx : K.element x ≡ true) where
    -- powers from the i-th on
    dot_value : (l ps : List ℕ) (i : ℕ) → Inside K l → length l ≤ length ps → ((k : ℕ) → k < length ps → get_or ps k 0 ≡ power_of K x (i + k)) →
        dot_of K l ps ≡ ((elements laws).mul (power i) (value_of_lem (elements laws) (length l) (read laws x) (coefficients laws l))).0
    unfolding elements dot_of power power_of
    dot_value [] ps i hl le hp = ap (λ (a : Element K). a.0) (sym (ap ((elements laws).mul (power i)) (value_none (elements laws) _ _) ∙ mul_zero (elements laws) (power i)))
    dot_value (c ∷ l) [] i hl le hp = absurd (omega arith)
    dot_value (c ∷ l) (p ∷ ps) i hl le hp =
        let X : Element K = read laws x in
        let V : Element K = value_of_lem (elements laws) (length l) X (coefficients laws l) in
        let C : Element K = coefficients laws (c ∷ l) 0 in
        let first : c ≡ C.0 = sym (code_at laws (c ∷ l) 0 hl (omega arith)) in
        let head : p ≡ power_of K x i = hp 0 (omega arith) ∙ ap (power_of K x) (add-zero i) in
        let next : power (suc i) ≡ (elements laws).mul X (power i) = element_same K (ap (λ y. K.product y (power_of K x i)) (sym (cond-true _ _ _ hx))) in
        let rest = dot_value l ps (suc i) (λ k lt. hl (suc k) (omega arith)) (omega arith) (λ k lt. hp (suc k) (omega arith) ∙ ap (power_of K x) (let e : i + suc k ≡ suc i + k = omega arith in e)) in
        ap₂ K.sum (ap₂ K.product first head) (rest ∙ ap (λ (y : Element K). ((elements laws).mul y V).0) next)
        ∙ ap (λ (y : Element K). y.0) (gathered (elements laws) C (power i) X V ∙ sym (ap ((elements laws).mul (power i)) (value_suc (elements laws) (length l) X (coefficients laws (c ∷ l)))))

pub valued_by : {K : Arithmetic} → Laws K → (l ps : List ℕ) (x v : ℕ) → length l ≤ length ps → Powers K x ps → v ≡ dot_of K l ps → Valued K l x v
unfolding elements power_of power
valued_by {K} laws l ps x v le hp e =
    valued_at laws l x v λ lw hl hx.
    let V : Element K = value_of_lem (elements lw) (length l) (read lw x) (coefficients lw l) in
    let whole : (elements lw).mul (power lw x 0) V ≡ V = element_same K (lw.product_one V.0 V.1) in
    sym (e ∙ dot_value lw x hx l ps 0 hl le (λ k lt. hp k lt ∙ ap (power_of K x) (let z : k ≡ 0 + k = omega arith in z)) ∙ ap (λ (b : Element K). b.0) whole)

-- the row so far, and the next power
pub record PowersTo (K : Arithmetic) (x : ℕ) (l : List ℕ) (i p : ℕ) : Type 0 where
  pub next : p ≡ power_of K x i
  pub below : (k : ℕ) → k < i → get_or l k 0 ≡ power_of K x k

module _ (K : Arithmetic) (x : ℕ) (l : List ℕ) where
  pub powers_none : (p : ℕ) → p ≡ K.one → PowersTo K x l 0 p
  unfolding power_of
  powers_none p e = record { next = e; below = λ k lt. absurd (omega arith) }

  pub powers_more : (i p q : ℕ) → i < length l → q ≡ K.product x p → PowersTo K x l i p → PowersTo K x (set l i p) (i + 1) q
  unfolding power_of
  powers_more i p q lt e h = record {
    next = e ∙ ap (K.product x) h.next ∙ ap (power_of K x) (let s : suc i ≡ i + 1 = omega arith in s);
    below = below_more (λ k. get_or (set l i p) k 0 ≡ power_of K x k) i
        (λ k b. let other : k ≢ i = omega arith in get_or-set_other l i k p 0 other ∙ h.below k b)
        (get_or-set_same l i p 0 lt ∙ h.next);
  }
