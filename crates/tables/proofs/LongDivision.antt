-- The long division of a table by another, from the top row down.
use Rattle.std.proofs.Common.{◌≡◌, ℕ, suc, ◌+◌, ◌-◌, ◌*◌, ◌<◌, ◌≤◌, ◌≢◌, ◌⊎◌, List, [], ◌∷◌, length, drop, Ok, Err, sym, refl, ap, ◌∙◌, subst, ap₂, inl, inr, arith, length-drop, length-take}
use mathlib.Core.Path.{fun_ext}
use mathlib.Core.HLevel.{Discrete}
use Rattle.std.proofs.lemmas.Bool.{cases_lt, cases_eq}
use Rattle.coefficients.specs.Arithmetic.{Arithmetic, Laws, IsField}
use Rattle.coefficients.specs.declared.kind.ReciprocalFault.TheVariants.{NoReciprocal}
use Rattle.algebra.specs.Ring.{Ring, combine, mul_zero, neg_zero, add_zero, zero_add}
use Rattle.algebra.specs.Solver.{by_ring, quoting}
use Rattle.algebra.specs.Series.{series}
use Rattle.algebra.specs.Divisors.{Divides}
use Rattle.algebra.specs.Field.{Field}
use Rattle.algebra.specs.Polynomial.{Poly, poly, poly_discrete, size, size_least, same, zero?, of_mul}
use Rattle.algebra.specs.Change.{Poly₂, poly₂}
use Rattle.algebra.proofs.Degrees.{coef_zero, coef_add, coef_neg, coef_mul, below_size, size_of_zero, leading}
use Rattle.algebra.proofs.Euclid.{size_zero}
use Rattle.bivariate.specs.Degrees.{K[y], K[y][x], width, Within}
use Rattle.bivariate.proofs.Domain.{divisor_size, domain_y, cancel_y, size_x_product}
use Rattle.bivariate.proofs.Width.{within_width, width_least, width_mul}
use Rattle.polynomials.specs.Elements.{past_end, element_discrete, elements, field, polynomial, polynomials, polynomial_xy}
use Rattle.polynomials.specs.Rows.{Inside, cut_row}
use Rattle.polynomials.proofs.Meaning.{of_polynomial, cleared}
use Rattle.polynomials.proofs.Terms.{mono, mono_at, mono_under, mono_below, mono_mul, mono_mul_under, term, of_term}
use Rattle.tables.specs.declared.faults.DivisionFault.{DivisionFault}
use Rattle.tables.specs.declared.faults.DivisionFault.TheVariants.{Reciprocal, Uneven}
use Rattle.tables.specs.Degrees.{ZeroRow, SizedX}
use Rattle.tables.specs.Exact.{Cut, CutTop, NoCut, DividedTable}
use Rattle.tables.proofs.CutRows.{cut_row_code}
use Rattle.tables.proofs.Sizes.{row_length, of_rows, of_past, size_x_is}

-- a step keeps the sum
module _ {E : Type 0} (R : Ring E) where
  open R use {one as 𝟙, add as ◌⊕◌, neg as ⊖◌, mul as ◌⊙◌}

  infixl 60 ◌⊕◌
  infixl 70 ◌⊙◌
  infix 80 ⊖◌
  pub sum_kept : (a₀ b q a t q' a' : E) → a₀ ≡ b ⊙ q ⊕ a → q' ≡ q ⊕ t → a' ≡ a ⊕ ⊖ (t ⊙ b) → a₀ ≡ b ⊙ q' ⊕ a'
  sum_kept a₀ b q a t q' a' e f g = combine R 𝟙 e (combine R (⊖ b) f (combine R (⊖ 𝟙) g (by_ring R (a₀ ∷ b ∷ q ∷ a ∷ t ∷ q' ∷ a' ∷ []) (search quoting depth 30) tt)))

  pub rest_multiple : (a₀ b q a x : E) → a₀ ≡ b ⊙ q ⊕ a → a₀ ≡ b ⊙ x → a ≡ b ⊙ (x ⊕ ⊖ q)
  rest_multiple a₀ b q a x e d = combine R 𝟙 d (combine R (⊖ 𝟙) e (by_ring R (a₀ ∷ b ∷ q ∷ a ∷ x ∷ []) (search quoting depth 30) tt))

-- over a field: what a multiple of B leaves
module _ {E : Type 0} (F : Field E) where
  open F use {ring as K, discrete as eq}
  open poly K eq use {zero as O, add as ◌⊕◌, neg as ⊖◌, mul as ◌⊙◌}
  open poly₂ K eq use {zero as 𝟎, add as ◌⊞◌, neg as ⊟◌, mul as ◌⊠◌}

  infixl 60 ◌⊕◌
  infixl 70 ◌⊙◌
  infix 80 ⊖◌
  infixl 60 ◌⊞◌
  infixl 70 ◌⊠◌
  infix 80 ⊟◌
  top_factor : (A B S : K[y][x] F) (m s : ℕ) → size (poly K eq) B ≡ suc m → A ≡ B ⊠ S → ((k : ℕ) → s + suc m ≤ k → A.0 k ≡ O) → A.0 (m + s) ≡ B.0 m ⊙ S.0 s
  top_factor A B S m s sb e below = go (zero? (poly K eq) (poly_discrete K eq) S)
    where
      nonzero : B ≡ 𝟎 → ⊥
      nonzero z = let a = ap (size (poly K eq)) z ∙ size_of_zero (poly K eq) (poly_discrete K eq) in omega arith

      go : Dec (S ≡ 𝟎) → A.0 (m + s) ≡ B.0 m ⊙ S.0 s
      go (yes z) =
          ap (λ (X : K[y][x] F). X.0 (m + s)) (e ∙ ap (λ X. B ⊠ X) z ∙ mul_zero (poly₂ K eq) B) ∙ coef_zero (poly K eq) (poly_discrete K eq) (m + s)
          ∙ sym (ap (λ x. B.0 m ⊙ x) (ap (λ (X : K[y][x] F). X.0 s) z ∙ coef_zero (poly K eq) (poly_discrete K eq) s) ∙ mul_zero (poly K eq) _)
      go (no n) =
          let a = size_x_product F B S nonzero n in
          let b = ap (size (poly K eq)) e in
          let d = size_least (poly K eq) A (s + suc m) below in
          ap (λ (X : K[y][x] F). X.0 (m + s)) e ∙ coef_mul (poly K eq) (poly_discrete K eq) m s B S (below_size (poly K eq) (poly_discrete K eq) B (suc m) (omega arith)) (below_size (poly K eq) (poly_discrete K eq) S (suc s) (omega arith))

  -- the factor of a step is a coefficient of the quotient, so that its product with B fits
  pub has_room : (A₀ A B Q X : K[y][x] F) (m s w j : ℕ) (f : K[y] F) → size (poly K eq) B ≡ suc m → A₀ ≡ B ⊠ Q ⊞ A → A₀ ≡ B ⊠ X → ((k : ℕ) → s + suc m ≤ k → A.0 k ≡ O) → Q.0 s ≡ O → A.0 (m + s) ≡ B.0 m ⊙ f → Within F w A₀ → 0 < size K f → w + 1 < size K f + size K (B.0 j) → ⊥
  has_room A₀ A B Q X m s w j f sb e d below free is within some over =
      let S = X ⊞ ⊟ Q in
      let t = top_factor A B S m s sb (rest_multiple (poly₂ K eq) A₀ B Q A X e d) below in
      let same : f ≡ S.0 s = cancel_y F lead (sym is ∙ t) in
      let here : S.0 s ≡ X.0 s = coef_add (poly K eq) (poly_discrete K eq) X (⊟ Q) s ∙ ap (λ x. X.0 s ⊕ x) (coef_neg (poly K eq) (poly_discrete K eq) Q s ∙ ap ⊖◌ free ∙ neg_zero (poly K eq)) ∙ add_zero (poly K eq) _ in
      let sf : size K f ≡ size K (X.0 s) = ap (size K) (same ∙ here) in
      let a = within_width F X s in
      let b = within_width F B j in
      let c = width_least F A₀ w within in
      let g = ap (width F) d in
      let p = width_mul F B X nonzero (λ z. let u = ap (λ (Y : K[y][x] F). size K (Y.0 s)) z ∙ ap (size K) (coef_zero (poly K eq) (poly_discrete K eq) s) ∙ size_of_zero K eq in omega arith) in
      omega arith
    where
      nonzero : B ≡ 𝟎 → ⊥
      nonzero z = let a = ap (size (poly K eq)) z ∙ size_of_zero (poly K eq) (poly_discrete K eq) in omega arith

      lead : B.0 m ≡ O → ⊥
      lead z =
          let l = leading (poly K eq) (poly_discrete K eq) B nonzero in
          let z' = l.is_size in
          let i : l.deg ≡ m = omega arith in
          l.nonzero (ap B.0 i ∙ z)

  pub top_divides : (A₀ A B Q X : K[y][x] F) (m s : ℕ) → size (poly K eq) B ≡ suc m → A₀ ≡ B ⊠ Q ⊞ A → A₀ ≡ B ⊠ X → ((k : ℕ) → s + suc m ≤ k → A.0 k ≡ O) → Divides (poly K eq) (B.0 m) (A.0 (m + s))
  top_divides A₀ A B Q X m s sb e d below = ((X ⊞ ⊟ Q).0 s, top_factor A B (X ⊞ ⊟ Q) m s sb (rest_multiple (poly₂ K eq) A₀ B Q A X e d) below)

  pub rest_zero : (A₀ A B Q X : K[y][x] F) → A₀ ≡ B ⊠ Q ⊞ A → A₀ ≡ B ⊠ X → size (poly K eq) A < size (poly K eq) B → (A ≡ 𝟎 → ⊥) → ⊥
  rest_zero A₀ A B Q X e d less n = let le = divisor_size (poly K eq) (poly_discrete K eq) (domain_y F) B A (X ⊞ ⊟ Q, rest_multiple (poly₂ K eq) A₀ B Q A X e d) n in omega arith

-- t₀ is b times q and t, t has no rows from `top` on, and q none below
pub record LongDivision (K : Arithmetic) (w : ℕ) (t₀ b t q : List ℕ) (n top : ℕ) : Type 0 where
  pub within : top ≤ 16
  pub inside : Inside K t₀ → Inside K b → Inside K t × Inside K q
  pub is : (lw : Laws K) → Inside K t₀ → Inside K b → polynomial_xy lw w t₀ ≡ (poly₂ (elements lw) (element_discrete K)).add ((poly₂ (elements lw) (element_discrete K)).mul (polynomial_xy lw w b) (polynomial_xy lw w q)) (polynomial_xy lw w t)
  pub below : (lw : Laws K) → Inside K t₀ → Inside K b → (k : ℕ) → top ≤ k → (polynomial_xy lw w t).0 k ≡ (polynomials lw).zero
  pub free : (lw : Laws K) → Inside K t₀ → Inside K b → (k : ℕ) → k + n ≤ top → (polynomial_xy lw w q).0 k ≡ (polynomials lw).zero

rows_zero : {K : Arithmetic} (lw : Laws K) (w : ℕ) (q : List ℕ) → ZeroRow K q → (k : ℕ) → (polynomial_xy lw w q).0 k ≡ (polynomials lw).zero
rows_zero lw w q z k = of_rows lw w q k ∙ cleared lw (cut_row w q k) (λ j lt. let a = length-take w (drop (w * k) q) in let b = length-drop (w * k) q in cut_row_code w q k j (omega arith) ∙ z (w * k + j) (omega arith))

module _ (K : Arithmetic) (w : ℕ) (t₀ b : List ℕ) (n : ℕ) (lt : length t₀ ≡ 16 * w) (lb : length b ≡ 16 * w) (pos : 0 < n) (sized : SizedX K w b n) where
  pub division_none : Laws K → (q : List ℕ) → ZeroRow K q → (top : ℕ) → top ≡ 16 → LongDivision K w t₀ b t₀ q n top
  division_none laws q z top e = record {
    within = omega arith;
    inside = λ ht hb. (ht, λ i l. ap K.element (z i l) ∙ laws.zero_in);
    is = λ lw ht hb. sym (ap (λ Q. (poly₂ (elements lw) (element_discrete K)).add ((poly₂ (elements lw) (element_discrete K)).mul (polynomial_xy lw w b) Q) (polynomial_xy lw w t₀)) (none lw) ∙ ap (λ X. (poly₂ (elements lw) (element_discrete K)).add X (polynomial_xy lw w t₀)) (mul_zero (poly₂ (elements lw) (element_discrete K)) _) ∙ zero_add (poly₂ (elements lw) (element_discrete K)) _);
    below = λ lw ht hb k far. of_past lw w t₀ k lt (omega arith);
    free = λ lw ht hb k le. rows_zero lw w q z k;
  }
    where
      none : (lw : Laws K) → polynomial_xy lw w q ≡ (poly₂ (elements lw) (element_discrete K)).zero
      none lw = same (polynomials lw) (poly_discrete (elements lw) (element_discrete K)) (fun_ext λ k. rows_zero lw w q z k ∙ sym (coef_zero (polynomials lw) (poly_discrete (elements lw) (element_discrete K)) k))

  size_b : (lw : Laws K) → Inside K b → size (polynomials lw) (polynomial_xy lw w b) ≡ suc (n - 1)
  size_b lw hb = let e = size_x_is lw w b n lb sized hb in omega arith

  nonzero_b : (lw : Laws K) → Inside K b → polynomial_xy lw w b ≡ (poly₂ (elements lw) (element_discrete K)).zero → ⊥
  nonzero_b lw hb z = let e = size_b lw hb in let a = ap (size (polynomials lw)) z ∙ size_of_zero (polynomials lw) (poly_discrete (elements lw) (element_discrete K)) in omega arith

  module _ (t q : List ℕ) (s top : ℕ) (top_is : top ≡ s + n) (u : LongDivision K w t₀ b t q n top) where
    module _ (lw : Laws K) (ht : Inside K t₀) (hb : Inside K b) (t' q' : List ℕ) (c : Cut lw w t b s n q t' q') where
      open polynomials lw use {zero as O, add as ◌⊕◌, neg as ⊖◌, mul as ◌⊙◌}
      open poly₂ (elements lw) (element_discrete K) use {add as ◌⊞◌, neg as ⊟◌, mul as ◌⊠◌}

      infixl 60 ◌⊕◌
      infixl 70 ◌⊙◌
      infix 80 ⊖◌
      infixl 60 ◌⊞◌
      infixl 70 ◌⊠◌
      infix 80 ⊟◌
      abbrev eqP : Discrete (Poly (elements lw))
      eqP = poly_discrete (elements lw) (element_discrete K)

      abbrev T : Poly₂ (elements lw) (element_discrete K)
      T = term (polynomials lw) eqP c.factor s

      of_T : (k : ℕ) → T.0 k ≡ mono (polynomials lw) c.factor s k
      of_T k = ap (λ f. f k) (of_term (polynomials lw) eqP c.factor s)

      quotient_is : polynomial_xy lw w q' ≡ polynomial_xy lw w q ⊞ T
      quotient_is = same (polynomials lw) eqP (fun_ext λ k. at k (cases_eq k s) ∙ sym (coef_add (polynomials lw) eqP (polynomial_xy lw w q) T k))
        where
          beside : (k : ℕ) → k ≢ s → (k < s) ⊎ (s ≤ k) → T.0 k ≡ O
          beside k ne (inl l) = of_T k ∙ mono_under (polynomials lw) c.factor s k l
          beside k ne (inr l) = of_T k ∙ mono_below (polynomials lw) c.factor s k (omega arith)

          at : (k : ℕ) → (k ≡ s) ⊎ (k ≢ s) → (polynomial_xy lw w q').0 k ≡ (polynomial_xy lw w q).0 k ⊕ T.0 k
          at k (inl e) =
              ap (polynomial_xy lw w q').0 e ∙ c.here
              ∙ sym (ap (λ j. (polynomial_xy lw w q).0 j ⊕ T.0 j) e ∙ ap₂ ◌⊕◌ (u.free lw ht hb s (omega arith)) (of_T s ∙ mono_at (polynomials lw) c.factor s) ∙ zero_add (polynomials lw) _)
          at k (inr ne) = c.others k ne ∙ sym (ap (λ x. (polynomial_xy lw w q).0 k ⊕ x) (beside k ne (cases_lt k s)) ∙ add_zero (polynomials lw) _)

      of_multiple : (k : ℕ) → (T ⊠ polynomial_xy lw w b).0 k ≡ (series (polynomials lw)).mul (mono (polynomials lw) c.factor s) (polynomial_xy lw w b).0 k
      of_multiple k = ap (λ f. f k) (of_mul (polynomials lw) eqP T (polynomial_xy lw w b) ∙ ap (λ f. (series (polynomials lw)).mul f (polynomial_xy lw w b).0) (of_term (polynomials lw) eqP c.factor s))

      rest_is : polynomial_xy lw w t' ≡ polynomial_xy lw w t ⊞ ⊟ (T ⊠ polynomial_xy lw w b)
      rest_is = same (polynomials lw) eqP (fun_ext λ k. at k (cases_lt k s) ∙ sym (coef_add (polynomials lw) eqP (polynomial_xy lw w t) (⊟ (T ⊠ polynomial_xy lw w b)) k ∙ ap (λ x. (polynomial_xy lw w t).0 k ⊕ x) (coef_neg (polynomials lw) eqP (T ⊠ polynomial_xy lw w b) k)))
        where
          at : (k : ℕ) → (k < s) ⊎ (s ≤ k) → (polynomial_xy lw w t').0 k ≡ (polynomial_xy lw w t).0 k ⊕ ⊖ (T ⊠ polynomial_xy lw w b).0 k
          at k (inl l) = c.less.under k l ∙ sym (ap (λ x. (polynomial_xy lw w t).0 k ⊕ ⊖ x) (of_multiple k ∙ mono_mul_under (polynomials lw) c.factor s (polynomial_xy lw w b).0 k l) ∙ ap (λ x. (polynomial_xy lw w t).0 k ⊕ x) (neg_zero (polynomials lw)) ∙ add_zero (polynomials lw) _)
          at k (inr l) =
              let j : ℕ = k - s in
              let e : s + j ≡ k = omega arith in
              ap (polynomial_xy lw w t').0 (sym e) ∙ c.less.over j ∙ ap (λ i. (polynomial_xy lw w t).0 i ⊕ ⊖ (c.factor ⊙ (polynomial_xy lw w b).0 j)) e
              ∙ ap (λ x. (polynomial_xy lw w t).0 k ⊕ ⊖ x) (sym (of_multiple k ∙ mono_mul (polynomials lw) c.factor s (polynomial_xy lw w b).0 j k (sym e)))

      gone : (k : ℕ) → top - 1 ≤ k → (polynomial_xy lw w t').0 k ≡ O
      gone k le = go (cases_lt k top)
        where
          j : ℕ
          j = k - s

          less : (i : ℕ) → s + i ≡ k → (polynomial_xy lw w t').0 k ≡ (polynomial_xy lw w t).0 k ⊕ ⊖ (c.factor ⊙ (polynomial_xy lw w b).0 i)
          less i e = ap (polynomial_xy lw w t').0 (sym e) ∙ c.less.over i ∙ ap (λ x. (polynomial_xy lw w t).0 x ⊕ ⊖ (c.factor ⊙ (polynomial_xy lw w b).0 i)) e

          go : (k < top) ⊎ (top ≤ k) → (polynomial_xy lw w t').0 k ≡ O
          go (inl l) =
              let e : s + (n - 1) ≡ k = omega arith in
              let f : k ≡ s + n - 1 = omega arith in
              less (n - 1) e ∙ ap (λ x. x ⊕ ⊖ (c.factor ⊙ (polynomial_xy lw w b).0 (n - 1))) (ap (polynomial_xy lw w t).0 f ∙ c.is) ∙ away ((polynomial_xy lw w b).0 (n - 1)) c.factor
            where
              away : (x y : Poly (elements lw)) → x ⊙ y ⊕ ⊖ (y ⊙ x) ≡ O
              away x y = by_ring (polynomials lw) (x ∷ y ∷ []) (search quoting depth 30) tt
          go (inr l) =
              let i : ℕ = k - s in
              let e : s + i ≡ k = omega arith in
              let z : (polynomial_xy lw w b).0 i ≡ O = below_size (polynomials lw) eqP (polynomial_xy lw w b) n (let a = size_b lw hb in omega arith) i (omega arith) in
              less i e ∙ ap₂ (λ x y. x ⊕ ⊖ y) (u.below lw ht hb k l) (ap (λ x. c.factor ⊙ x) z ∙ mul_zero (polynomials lw) _) ∙ zero_add (polynomials lw) _ ∙ neg_zero (polynomials lw)

    pub division_more : (t' q' : List ℕ) (less : ℕ) → less + 1 ≡ top → CutTop K w t b s n q t' q' (Ok tt) → LongDivision K w t₀ b t' q' n less
    division_more t' q' less next c = record {
      within = let a = u.within in omega arith;
      inside = λ ht hb. let h = u.inside ht hb in let told = c h.0 hb h.1 in (told.0, told.1);
      is = λ lw ht hb. let d = cut lw ht hb in sum_kept (poly₂ (elements lw) (element_discrete K)) _ _ _ _ _ _ _ (u.is lw ht hb) (quotient_is lw ht hb t' q' d) (rest_is lw ht hb t' q' d);
      below = λ lw ht hb k le. gone lw ht hb t' q' (cut lw ht hb) k (omega arith);
      free = λ lw ht hb k le. (cut lw ht hb).others k (λ e. absurd (omega arith)) ∙ u.free lw ht hb k (omega arith);
    }
      where
        cut : (lw : Laws K) → Inside K t₀ → Inside K b → Cut lw w t b s n q t' q'
        cut lw ht hb = let h = u.inside ht hb in (c h.0 hb h.1).2 lw

    within_w : (lw : Laws K) (k : ℕ) → size (elements lw) ((polynomial_xy lw w t₀).0 k) ≤ w
    within_w lw k =
        let e = ap (size (elements lw)) (of_rows lw w t₀ k) in
        let le = size_least (elements lw) (polynomial lw (cut_row w t₀ k)) w (λ j far. ap (λ f. f j) (of_polynomial lw (cut_row w t₀ k)) ∙ past_end lw (cut_row w t₀ k) j (let a = row_length w t₀ k in omega arith)) in
        omega arith

    no_cut : (lw : Laws K) → Inside K t₀ → Inside K b → NoCut lw w t b s n → IsField K → Divides (poly₂ (elements lw) (element_discrete K)) (polynomial_xy lw w b) (polynomial_xy lw w t₀) → ⊥
    unfolding field
    no_cut lw ht hb (inl none) only (X, d) =
        let i : n - 1 + s ≡ s + n - 1 = omega arith in
        none only (subst (λ (k : ℕ). Divides (polynomials lw) ((polynomial_xy lw w b).0 (n - 1)) ((polynomial_xy lw w t).0 k)) i (top_divides (field lw only) (polynomial_xy lw w t₀) (polynomial_xy lw w t) (polynomial_xy lw w b) (polynomial_xy lw w q) X (n - 1) s (size_b lw hb) (u.is lw ht hb) d (λ k le. u.below lw ht hb k (omega arith))))
    no_cut lw ht hb (inr (f, is, room)) only (X, d) =
        let i : n - 1 + s ≡ s + n - 1 = omega arith in
        has_room (field lw only) (polynomial_xy lw w t₀) (polynomial_xy lw w t) (polynomial_xy lw w b) (polynomial_xy lw w q) X (n - 1) s w room.at f (size_b lw hb) (u.is lw ht hb) d (λ k le. u.below lw ht hb k (omega arith)) (u.free lw ht hb s (omega arith)) (ap (polynomial_xy lw w t).0 i ∙ is) (within_w lw) room.factor room.over

    pub division_refused : (t' q' : List ℕ) (e : DivisionFault) → CutTop K w t b s n q t' q' (Err e) → DividedTable K w t₀ b t' q' (Err e)
    division_refused t' q' (Reciprocal e) c = λ ht hb.
        let h = u.inside ht hb in
        let (a, d, (x, is, bad)) = c h.0 hb h.1 in
        (a, d, (x, is, inr bad))
    division_refused t' q' Uneven c = λ ht hb.
        let h = u.inside ht hb in
        let told = c h.0 hb h.1 in
        (told.0, told.1, λ lw. record { nonzero = nonzero_b lw hb; uneven = no_cut lw ht hb (told.2 lw) })

  module _ (t q : List ℕ) (top m : ℕ) (lt' : length t ≡ 16 * w) (small : top < n) (s : SizedX K w t m) (u : LongDivision K w t₀ b t q n top) where
    pub division_even : m ≡ 0 → DividedTable K w t₀ b t q (Ok tt)
    division_even e ht hb =
        let h = u.inside ht hb in
        (h.0, h.1, subst (λ (k : ℕ). SizedX K w t k) e s, λ lw. record { nonzero = nonzero_b lw hb; is = u.is lw ht hb ∙ ap ((poly₂ (elements lw) (element_discrete K)).add _) (size_zero (polynomials lw) (poly_discrete (elements lw) (element_discrete K)) _ (size_x_is lw w t m lt' s h.0 ∙ e)) ∙ add_zero (poly₂ (elements lw) (element_discrete K)) _ })

    left_over : (lw : Laws K) → Inside K t₀ → Inside K b → (m ≡ 0 → ⊥) → IsField K → Divides (poly₂ (elements lw) (element_discrete K)) (polynomial_xy lw w b) (polynomial_xy lw w t₀) → ⊥
    unfolding field
    left_over lw ht hb ne only (X, d) =
        let e = size_b lw hb in
        let z = size_x_is lw w t m lt' s (u.inside ht hb).0 in
        let le = size_least (polynomials lw) (polynomial_xy lw w t) top (u.below lw ht hb) in
        rest_zero (field lw only) (polynomial_xy lw w t₀) (polynomial_xy lw w t) (polynomial_xy lw w b) (polynomial_xy lw w q) X (u.is lw ht hb) d (omega arith) (λ none. ne (sym z ∙ ap (size (polynomials lw)) none ∙ size_of_zero (polynomials lw) (poly_discrete (elements lw) (element_discrete K))))

    pub division_uneven : (m ≡ 0 → ⊥) → DividedTable K w t₀ b t q (Err Uneven)
    division_uneven ne ht hb =
        let h = u.inside ht hb in
        (h.0, h.1, λ lw. record { nonzero = nonzero_b lw hb; uneven = left_over lw ht hb ne })

-- no division by zero
pub division_by_zero : {K : Arithmetic} (laws : Laws K) (w : ℕ) (t b q : List ℕ) (z : ℕ) → length b ≡ 16 * w → z ≡ K.zero → ZeroRow K q → SizedX K w b 0 → DividedTable K w t b t q (Err (Reciprocal (NoReciprocal z)))
division_by_zero {K} laws w t b q z lb e none sized ht hb =
    (ht, λ i l. ap K.element (none i l) ∙ laws.zero_in, (z, refl, inl (e, λ lw. size_zero (polynomials lw) (poly_discrete (elements lw) (element_discrete K)) _ (size_x_is lw w b 0 lb sized hb))))
