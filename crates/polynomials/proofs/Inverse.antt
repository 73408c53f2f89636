-- What an answer of `reciprocal` at a leading code says.
use Rattle.std.proofs.Common.{◌≡◌, ℕ, zero, suc, ◌-◌, ◌<◌, ◌≤◌, Bool, true, false, ◌⊎◌, List, length, get_or, sym, refl, ap, ◌∙◌, inl, inr, arith}
use Rattle.std.proofs.lemmas.Bool.{cases_lt}
use Rattle.coefficients.specs.Arithmetic.{Arithmetic, Laws}
use Rattle.coefficients.specs.declared.kind.ReciprocalFault.{ReciprocalFault}
use Rattle.coefficients.specs.declared.kind.ReciprocalFault.TheVariants.{NoReciprocal}
use Rattle.algebra.specs.Ring.{mul_zero}
use Rattle.polynomials.specs.Elements.{Element, elements}
use Rattle.polynomials.specs.Rows.{Inside, Sized}
use Rattle.polynomials.specs.Steps.{Undivided, Stuck, leading}

leading_at : (K : Arithmetic) (g : List ℕ) (n : ℕ) → 0 < n → get_or g (n - 1) 0 ≡ leading K g n
leading_at K g zero lt = absurd (omega arith)
leading_at K g (suc n) lt = let e : suc n - 1 ≡ n = omega arith in ap (λ i. get_or g i 0) e

module _ {K : Arithmetic} (laws : Laws K) where
  pub zero_product : (a : ℕ) → K.element a ≡ true → K.product K.zero a ≡ K.zero
  unfolding elements
  zero_product a h = laws.product_comm _ _ ∙ ap (λ (x : Element K). x.0) (mul_zero (elements laws) (a, h))

  -- a product that is one has elements for factors
  pub factor_in : (a r : ℕ) → K.product a r ≡ K.one → K.element r ≡ true
  factor_in a r e = go (K.element r) refl
    where
      go : (b : Bool) → K.element r ≡ b → b ≡ true
      go true h = refl
      go false h = absurd (laws.apart (sym (laws.product_foreign r a h) ∙ laws.product_comm r a ∙ e))

  module _ (g : List ℕ) where
    pub undivided_zero : Sized K g 0 → Undivided K g (NoReciprocal K.zero)
    undivided_zero s h = (K.zero, refl, record { size = 0; sized = s; lead = refl; inside = laws.zero_in; none = λ r p. laws.apart (sym (zero_product r (factor_in _ r p)) ∙ p) })

-- a row has one size
pub sized_least : (K : Arithmetic) (g : List ℕ) (n m : ℕ) → Sized K g n → ((i : ℕ) → m ≤ i → i < length g → get_or g i 0 ≡ K.zero) → n ≤ m
sized_least K g n m s z = go (cases_lt m n)
  where
    go : (m < n) ⊎ (n ≤ m) → n ≤ m
    go (inl lt) = let w = s.within in absurd (s.lead (omega arith) (z (n - 1) (omega arith) (omega arith)))
    go (inr le) = le

pub sized_once : (K : Arithmetic) (g : List ℕ) (n m : ℕ) → Sized K g n → Sized K g m → n ≡ m
sized_once K g n m s t =
    let x = sized_least K g n m s t.zeros in
    let y = sized_least K g m n t s.zeros in
    omega arith

-- the leading coefficient of a divisor that is not zero, where it has no reciprocal
pub stuck : (K : Arithmetic) (g : List ℕ) (n : ℕ) → 0 < n → Sized K g n → Inside K g → (e : ReciprocalFault) → Undivided K g e → (c : ℕ) × (e ≡ NoReciprocal c) × Stuck K c
stuck K g n pos s h e u =
    let (c, is, bad) = u h in
    let same : bad.size ≡ n = sized_once K g bad.size n bad.sized s in
    let lead : c ≡ get_or g (n - 1) 0 = bad.lead ∙ ap (leading K g) same ∙ sym (leading_at K g n pos) in
    let nonzero : c ≡ K.zero → ⊥ = λ z. s.lead pos (sym lead ∙ z) in
    (c, is, record { inside = bad.inside; nonzero = nonzero; none = bad.none; no_field = λ field. let (r, h, p) = field c bad.inside nonzero in bad.none r p })
