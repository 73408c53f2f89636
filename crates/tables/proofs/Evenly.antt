-- Division of each row of a table by one row, which comes out even.
use Rattle.std.proofs.Common.{◌≡◌, ℕ, zero, suc, ◌+◌, ◌-◌, ◌*◌, ◌<◌, ◌≤◌, true, ◌⊎◌, List, [], ◌∷◌, ◌++◌, length, get_or, take, drop, Ok, Err, Result, sym, refl, ap, ◌∙◌, subst, inl, inr, mul-le-mul_left, mul-suc, arith, length-append, length-drop, length-take, get_or-drop, get_or-take}
use mathlib.Core.Path.{fun_ext}
use mathlib.Core.HLevel.{Discrete}
use borrow.Rule.Slice.PartMut.{put_mid}
use Rattle.std.proofs.lemmas.List.{get_or_append_left, get_or-append_right}
use Rattle.std.proofs.lemmas.Slice.{between_is, between-put_mid, take-put_mid_below}
use Rattle.std.proofs.lemmas.Bool.{cases_lt}
use Rattle.coefficients.specs.Arithmetic.{Arithmetic, Laws}
use Rattle.algebra.specs.Ring.{Ring, combine, mul_comm as commute, mul_zero, add_zero}
use Rattle.algebra.specs.Solver.{by_ring, quoting}
use Rattle.algebra.specs.Divisors.{Divides, Invertible}
use Rattle.algebra.specs.Lead.{lead}
use Rattle.algebra.specs.Polynomial.{Poly, poly, poly_discrete, size, same, zero?}
use Rattle.algebra.proofs.Degrees.{leading, below_size, coef_mul, coef_scale, lead_at, size_of_zero}
use Rattle.tables.specs.declared.faults.DivisionFault.{DivisionFault}
use Rattle.tables.specs.declared.faults.DivisionFault.TheVariants.{Reciprocal, Uneven}
use Rattle.polynomials.specs.Elements.{Element, element_same, element_discrete, elements, polynomial, polynomials, polynomial_xy}
use Rattle.polynomials.specs.Rows.{Inside, Sized, cut_row}
use Rattle.tables.specs.Degrees.{ZeroRow}
use Rattle.polynomials.specs.Relations.{Quotient}
use Rattle.tables.specs.Content.{Exact, Even, EvenRows}
use Rattle.polynomials.proofs.Meaning.{size_is, cleared, code_mul, code_one, code_zero}
use Rattle.tables.proofs.Sizes.{part_row, row_inside, of_rows, of_past}

module _ {E : Type 0} (R : Ring E) (eq : Discrete E) where
  open R use {zero as 𝟘, one as 𝟙, mul as ◌⊙◌}
  open poly R eq use {zero as O, add as ◌⊹◌, neg as ⁻◌, mul as ◌⋆◌}

  infixl 70 ◌⊙◌
  infixl 60 ◌⊹◌
  infixl 70 ◌⋆◌
  infix 80 ⁻◌
  -- a multiple of g that is smaller than g is zero, where the leading coefficient of g has a reciprocal
  small_multiple : (g u r : Poly R) → Invertible R (lead R g) → r ≡ g ⋆ u → size R r < size R g → r ≡ O
  small_multiple g u r (v, unit) e less = go (size R g) refl (zero? R eq u)
    where
      gone : (a b v : E) → 𝟙 ≡ a ⊙ v → a ⊙ b ≡ 𝟘 → b ≡ 𝟘
      gone a b v p q = combine R b p (combine R v q (by_ring R (a ∷ b ∷ v ∷ []) (search quoting depth 30) tt))

      go : (n : ℕ) → size R g ≡ n → Dec (u ≡ O) → r ≡ O
      go n s (yes z) = e ∙ ap (λ x. g ⋆ x) z ∙ mul_zero (poly R eq) g
      go zero s (no k) = absurd (omega arith)
      go (suc a) s (no k) =
          let l = leading R eq u k in
          let top : (g ⋆ u).0 (a + l.deg) ≡ g.0 a ⊙ u.0 l.deg = coef_mul R eq a l.deg g u (below_size R eq g (suc a) (omega arith)) l.below in
          let none : g.0 a ⊙ u.0 l.deg ≡ 𝟘 = sym top ∙ ap (λ (p : Poly R). p.0 (a + l.deg)) (sym e) ∙ r.1.1.0 (a + l.deg) (omega arith) in
          absurd (l.nonzero (gone (g.0 a) (u.0 l.deg) v (unit ∙ ap (λ x. x ⊙ v) (lead_at R eq g a s)) none))

  -- a multiple of g leaves nothing
  pub divides_evenly : (f g q r : Poly R) → Invertible R (lead R g) → f ≡ q ⋆ g ⊹ r → size R r < size R g → Divides (poly R eq) g f → r ≡ O
  divides_evenly f g q r i e less (s, d) = small_multiple g (s ⊹ ⁻ q) r i (rest f g q r s e d) less
    where
      rest : (f g q r s : Poly R) → f ≡ q ⋆ g ⊹ r → f ≡ g ⋆ s → r ≡ g ⋆ (s ⊹ ⁻ q)
      rest f g q r s e d = combine (poly R eq) (poly R eq).one d (combine (poly R eq) (⁻ (poly R eq).one) e (by_ring (poly R eq) (f ∷ g ∷ q ∷ r ∷ s ∷ []) (search quoting depth 30) tt))

module _ {K : Arithmetic} (laws : Laws K) where
  -- over a field every leading coefficient but zero has a reciprocal
  lead_unit : (g : List ℕ) → (polynomial laws g ≡ (polynomials laws).zero → ⊥) → Exact laws g → Invertible (elements laws) (lead (elements laws) (polynomial laws g))
  lead_unit g n (inr i) = i
  lead_unit g n (inl only) =
      let l = leading (elements laws) (element_discrete K) (polynomial laws g) n in
      let a : Element K = (polynomial laws g).0 l.deg in
      let (r, h, e) = only a.0 a.1 (λ z. l.nonzero (element_same K (z ∙ sym (code_zero laws)))) in
      ((r, h), element_same K (code_one laws ∙ sym e ∙ sym (code_mul laws a (r, h))) ∙ ap (λ x. (elements laws).mul x (r, h)) (sym (lead_at (elements laws) (element_discrete K) (polynomial laws g) l.deg l.is_size)))

  module _ (f g q r : List ℕ) (d : Quotient laws f g q r) where
    pub divisor_nonzero : polynomial laws g ≡ (polynomials laws).zero → ⊥
    divisor_nonzero z =
        let e = ap (size (elements laws)) z ∙ size_of_zero (elements laws) (element_discrete K) in
        let l = d.less in
        omega arith

    pub even_is : ZeroRow K r → polynomial laws f ≡ (polynomials laws).mul (polynomial laws g) (polynomial laws q)
    even_is z = d.is ∙ ap ((polynomials laws).add ((polynomials laws).mul (polynomial laws q) (polynomial laws g))) (cleared laws r z) ∙ add_zero (polynomials laws) _ ∙ commute (polynomials laws) _ _

    pub uneven_is : (m : ℕ) → Inside K r → Sized K r m → (m ≡ 0 → ⊥) → Exact laws g → Divides (polynomials laws) (polynomial laws g) (polynomial laws f) → ⊥
    uneven_is m h s n x k =
        let z = divides_evenly (elements laws) (element_discrete K) (polynomial laws f) (polynomial laws g) (polynomial laws q) (polynomial laws r) (lead_unit g divisor_nonzero x) d.is d.less k in
        n (sym (size_is laws r m h s) ∙ ap (size (elements laws)) z ∙ size_of_zero (elements laws) (element_discrete K))

-- rows put together
inside_append : (K : Arithmetic) (a b : List ℕ) → Inside K a → Inside K b → Inside K (a ++ b)
inside_append K a b ha hb i lt = go (cases_lt i (length a))
  where
    go : (i < length a) ⊎ (length a ≤ i) → K.element (get_or (a ++ b) i 0) ≡ true
    go (inl l) = ap K.element (get_or_append_left a b 0 i l) ∙ ha i l
    go (inr l) = let e = length-append a b in ap K.element (get_or-append_right a b (length a) i 0 refl l) ∙ hb (i - length a) (omega arith)

inside_take : (K : Arithmetic) (n : ℕ) (a : List ℕ) → Inside K a → Inside K (take n a)
inside_take K n a h i lt = let e = length-take n a in ap K.element (get_or-take n a i 0 (omega arith)) ∙ h i (omega arith)

inside_drop : (K : Arithmetic) (n : ℕ) (a : List ℕ) → Inside K a → Inside K (drop n a)
inside_drop K n a h i lt = let e = length-drop n a in ap K.element (get_or-drop n a i 0) ∙ h (n + i) (omega arith)

-- what stands in q, of 16 rows, after its i-th row became y
module _ (w i s k : ℕ) (q y : List ℕ) (at : s ≡ w * i) (fits : s + w ≤ length q) (long : length y ≡ w) where
  pub put_inside : (K : Arithmetic) → Inside K q → Inside K y → Inside K (put_mid s k q y)
  put_inside K hq hy = inside_append K (take s q) (y ++ drop k (drop s q)) (inside_take K s q hq) (inside_append K y (drop k (drop s q)) hy (inside_drop K k (drop s q) (inside_drop K s q hq)))

  pub put_same : (j : ℕ) → j < i → cut_row w (put_mid s k q y) j ≡ cut_row w q j
  put_same j lt =
      let next : w * suc j ≤ w * i = mul-le-mul_left w lt in
      let once : w * suc j ≡ w * j + w = mul-suc w j in
      let wide : w * j + w - w * j ≡ w = omega arith in
      let inner : (l : List ℕ) → cut_row w l j ≡ drop (w * j) (take (w * j + w) l) = λ l. ap (λ n. take n (drop (w * j) l)) (sym wide) ∙ between_is l (w * j) (w * j + w) in
      inner (put_mid s k q y) ∙ ap (drop (w * j)) (take-put_mid_below s k q y (w * j + w) (omega arith) (omega arith)) ∙ sym (inner q)

  pub put_here : cut_row w (put_mid s k q y) i ≡ y
  put_here =
      let wide : s + w - s ≡ w = omega arith in
      ap (λ n. take w (drop n (put_mid s k q y))) (sym at) ∙ ap (λ n. take n (drop s (put_mid s k q y))) (sym wide) ∙ between-put_mid s k q y (s + w) (omega arith) (omega arith)

-- rows that are equal, and the row of the quotient as a part of a slice
pub even_rows : (K : Arithmetic) (w i s : ℕ) (f f' g g' q y : List ℕ) (r : Result (Unit {0}) DivisionFault) → f ≡ f' → g ≡ g' → s ≡ w * i → Even K f g (take (s + w - s) (drop s q)) y r → Even K f' g' (cut_row w q i) y r
even_rows K w i s f f' g g' q y r ef eg at h =
    subst (λ (l : List ℕ). Even K l g' (cut_row w q i) y r) ef (subst (λ (l : List ℕ). Even K f l (cut_row w q i) y r) eg (subst (λ (l : List ℕ). Even K f g l y r) (part_row w i s q at) h))

pub part_length : (w s : ℕ) (q : List ℕ) → s + w ≤ length q → length (take (s + w - s) (drop s q)) ≡ w
part_length w s q fits =
    let a = length-take (s + w - s) (drop s q) in
    let b = length-drop s q in
    omega arith

-- the first i rows of t are g times those of q
pub record Divided (K : Arithmetic) (w : ℕ) (t g q : List ℕ) (i : ℕ) : Type 0 where
  pub inside : Inside K t → Inside K g → Inside K q
  pub nonzero : (laws : Laws K) → 0 < i → Inside K t → Inside K g → polynomial laws g ≡ (polynomials laws).zero → ⊥
  pub is : (laws : Laws K) → Inside K t → Inside K g → (j : ℕ) → j < i → polynomial laws (cut_row w t j) ≡ (polynomials laws).mul (polynomial laws g) (polynomial laws (cut_row w q j))

pub divided_none : {K : Arithmetic} (laws : Laws K) (w : ℕ) (t g q : List ℕ) → ZeroRow K q → Divided K w t g q 0
divided_none {K} laws w t g q z = record {
  inside = λ ht hg i lt. ap K.element (z i lt) ∙ laws.zero_in;
  nonzero = λ lw pos. absurd (omega arith);
  is = λ lw ht hg j lt. absurd (omega arith);
}

module _ (K : Arithmetic) (w : ℕ) (t g q : List ℕ) (i s k : ℕ) (y : List ℕ) (at : s ≡ w * i) (fits : s + w ≤ length q) (kept : length y ≡ length (take (s + w - s) (drop s q))) (u : Divided K w t g q i) where
  long : length y ≡ w
  long = kept ∙ part_length w s q fits

  pub divided_more : Even K (cut_row w t i) g (cut_row w q i) y (Ok tt) → Divided K w t g (put_mid s k q y) (i + 1)
  divided_more d = record {
    inside = λ ht hg. put_inside w i s k q y at fits long K (u.inside ht hg) (d (row_inside K w t i ht) hg).0;
    nonzero = λ lw pos ht hg. ((d (row_inside K w t i ht) hg).1 lw).0;
    is = λ lw ht hg j lt. each lw ht hg j (cases_lt j i) lt;
  }
    where
      each : (lw : Laws K) → Inside K t → Inside K g → (j : ℕ) → (j < i) ⊎ (i ≤ j) → j < i + 1 → polynomial lw (cut_row w t j) ≡ (polynomials lw).mul (polynomial lw g) (polynomial lw (cut_row w (put_mid s k q y) j))
      each lw ht hg j (inl l) lt = u.is lw ht hg j l ∙ ap (λ x. (polynomials lw).mul (polynomial lw g) (polynomial lw x)) (sym (put_same w i s k q y at fits long j l))
      each lw ht hg j (inr l) lt =
          let e : i ≡ j = omega arith in
          let here : polynomial lw (cut_row w t i) ≡ (polynomials lw).mul (polynomial lw g) (polynomial lw (cut_row w (put_mid s k q y) i)) = ((d (row_inside K w t i ht) hg).1 lw).1 ∙ ap (λ x. (polynomials lw).mul (polynomial lw g) (polynomial lw x)) (sym (put_here w i s k q y at fits long)) in
          subst (λ (j : ℕ). polynomial lw (cut_row w t j) ≡ (polynomials lw).mul (polynomial lw g) (polynomial lw (cut_row w (put_mid s k q y) j))) e here

  pub divided_refused : (e : DivisionFault) → Even K (cut_row w t i) g (cut_row w q i) y (Err e) → EvenRows K w t g (put_mid s k q y) (Err e)
  divided_refused (Reciprocal e) (no_way, kept) = λ ht hg.
      (put_inside w i s k q y at fits long K (u.inside ht hg) (subst (λ (l : List ℕ). Inside K l) (sym kept) (row_inside K w q i (u.inside ht hg))), no_way hg)
  divided_refused Uneven d = λ ht hg.
      let told = d (row_inside K w t i ht) hg in
      (put_inside w i s k q y at fits long K (u.inside ht hg) told.0, λ lw. record { nonzero = (told.1 lw).0; uneven = λ x. (i, λ (c, e). (told.1 lw).1 x (c, sym (of_rows lw w t i) ∙ e)) })

pub divided_all : (K : Arithmetic) (w : ℕ) (t g q : List ℕ) (i : ℕ) → length t ≡ 16 * w → length q ≡ length t → i ≡ 16 → Divided K w t g q i → EvenRows K w t g q (Ok tt)
divided_all K w t g q i long along e u ht hg = (u.inside ht hg, λ lw. record { nonzero = u.nonzero lw (omega arith) ht hg; is = same (polynomials lw) (poly_discrete (elements lw) (element_discrete K)) (fun_ext λ j. row lw j (cases_lt j 16) ∙ sym (coef_scale (polynomials lw) (poly_discrete (elements lw) (element_discrete K)) (polynomial lw g) (polynomial_xy lw w q) j)) })
  where
    row : (lw : Laws K) (j : ℕ) → (j < 16) ⊎ (16 ≤ j) → (polynomial_xy lw w t).0 j ≡ (polynomials lw).mul (polynomial lw g) ((polynomial_xy lw w q).0 j)
    row lw j (inl lt) = of_rows lw w t j ∙ u.is lw ht hg j (omega arith) ∙ ap ((polynomials lw).mul (polynomial lw g)) (sym (of_rows lw w q j))
    row lw j (inr far) = of_past lw w t j long far ∙ sym (ap ((polynomials lw).mul (polynomial lw g)) (of_past lw w q j (along ∙ long) far) ∙ mul_zero (polynomials lw) _)
