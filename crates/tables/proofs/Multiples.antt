-- Each row of a table times one row.
use Rattle.std.proofs.Common.{◌≡◌, ℕ, zero, suc, ◌+◌, ◌-◌, ◌*◌, ◌<◌, ◌≤◌, ◌⊎◌, List, Ok, Err, length, get_or, take, drop, sym, ap, ◌∙◌, subst, inl, inr, arith}
use mathlib.Core.Path.{fun_ext}
use native.Mathlib.Decide.{ℕ_discrete}
use borrow.Rule.Slice.PartMut.{put_mid}
use Rattle.std.proofs.lemmas.Bool.{cases_lt}
use Rattle.coefficients.specs.Arithmetic.{Arithmetic, Laws, IsField}
use Rattle.algebra.specs.Ring.{mul_zero}
use Rattle.algebra.specs.Field.{field_domain}
use Rattle.algebra.specs.Polynomial.{Poly, poly_discrete, size, same}
use Rattle.algebra.specs.Change.{poly₂}
use Rattle.algebra.proofs.Degrees.{coef_scale, size_of_zero, size_product}
use Rattle.bivariate.proofs.Width.{within_width}
use Rattle.polynomials.specs.Elements.{element_discrete, elements, field, polynomial, polynomials, polynomial_xy}
use Rattle.polynomials.specs.Rows.{Inside, Sized, cut_row}
use Rattle.polynomials.specs.Product.{Multiplied}
use Rattle.polynomials.specs.declared.product.NoRoom.{NoRoom}
use Rattle.tables.specs.Degrees.{ZeroRow, width_over}
use Rattle.tables.specs.Content.{lifted}
use Rattle.tables.specs.Scale.{ManyTimes, NoPlace}
use Rattle.polynomials.proofs.Meaning.{size_is}
use Rattle.tables.proofs.Sizes.{part_row, row_inside, of_rows, of_past}
use Rattle.tables.proofs.Evenly.{part_length, put_inside, put_same, put_here}

-- a row has a size
sized_below : (K : Arithmetic) (l : List ℕ) (n : ℕ) → n ≤ length l → ((i : ℕ) → n ≤ i → i < length l → get_or l i 0 ≡ K.zero) → (m : ℕ) × Sized K l m
sized_below K l zero le z = (0, record { within = le; zeros = z; lead = λ pos. absurd (omega arith) })
sized_below K l (suc n) le z = go (ℕ_discrete (get_or l n 0) K.zero) (sized_below K l n (omega arith))
  where
    go : Dec (get_or l n 0 ≡ K.zero) → (((i : ℕ) → n ≤ i → i < length l → get_or l i 0 ≡ K.zero) → (m : ℕ) × Sized K l m) → (m : ℕ) × Sized K l m
    go (yes e) less = less (λ i far lt. at i (cases_lt n i) far lt)
      where
        at : (i : ℕ) → (n < i) ⊎ (i ≤ n) → n ≤ i → i < length l → get_or l i 0 ≡ K.zero
        at i (inl over) far lt = z i (omega arith) lt
        at i (inr here) far lt = let p : i ≡ n = omega arith in ap (λ j. get_or l j 0) p ∙ e
    go (no k) less = (suc n, record { within = le; zeros = z; lead = λ pos e. let p : suc n - 1 ≡ n = omega arith in k (ap (λ j. get_or l j 0) (sym p) ∙ e) })

pub sized_any : (K : Arithmetic) (l : List ℕ) → (m : ℕ) × Sized K l m
sized_any K l = sized_below K l (length l) (omega arith) (λ i far lt. absurd (omega arith))

-- the first i rows of p are g times those of t
pub record Scaled (K : Arithmetic) (w : ℕ) (t g p : List ℕ) (i : ℕ) : Type 0 where
  pub inside : Inside K t → Inside K g → Inside K p
  pub is : (laws : Laws K) → Inside K t → Inside K g → (j : ℕ) → j < i → polynomial laws (cut_row w p j) ≡ (polynomials laws).mul (polynomial laws g) (polynomial laws (cut_row w t j))

pub scaled_none : {K : Arithmetic} (laws : Laws K) (w : ℕ) (t g p : List ℕ) → ZeroRow K p → Scaled K w t g p 0
scaled_none {K} laws w t g p z = record { inside = λ ht hg i lt. ap K.element (z i lt) ∙ laws.zero_in; is = λ lw ht hg j lt. absurd (omega arith) }

module _ {K : Arithmetic} (laws : Laws K) (w : ℕ) (t g : List ℕ) where
  open poly₂ (elements laws) (element_discrete K) use {mul as ◌⊠◌}

  infixl 70 ◌⊠◌
  -- over a field the sizes of two factors add up
  large : (i : ℕ) → 0 < size (elements laws) (polynomial laws g) → 0 < size (elements laws) ((polynomial_xy laws w t).0 i) → w + 1 < size (elements laws) (polynomial laws g) + size (elements laws) ((polynomial_xy laws w t).0 i) → (only : IsField K) → w < width_over laws only (lifted laws g ⊠ polynomial_xy laws w t)
  unfolding field
  large i pg pt over only =
      let s = size_product (elements laws) (element_discrete K) (field_domain (field laws only)) (polynomial laws g) ((polynomial_xy laws w t).0 i) (some _ pg) (some _ pt) in
      let e = ap (size (elements laws)) (coef_scale (polynomials laws) (poly_discrete (elements laws) (element_discrete K)) (polynomial laws g) (polynomial_xy laws w t) i) in
      let b = within_width (field laws only) (lifted laws g ⊠ polynomial_xy laws w t) i in
      omega arith
    where
      some : (p : Poly (elements laws)) → 0 < size (elements laws) p → p ≡ (polynomials laws).zero → ⊥
      some p pos z = let e = ap (size (elements laws)) z ∙ size_of_zero (elements laws) (element_discrete K) in omega arith

  no_place : (i m n : ℕ) → size (elements laws) (polynomial laws g) ≡ m → size (elements laws) ((polynomial_xy laws w t).0 i) ≡ n → 0 < m → 0 < n → w + 1 < m + n → NoPlace laws w t g
  no_place i m n e f pm pn over = record { at = i; by = omega arith; row = omega arith; over = omega arith; large = large i (omega arith) (omega arith) (omega arith) }

module _ (K : Arithmetic) (w : ℕ) (t g p : List ℕ) (i s k : ℕ) (y : List ℕ) (at : s ≡ w * i) (fits : s + w ≤ length p) (kept : length y ≡ length (take (s + w - s) (drop s p))) (u : Scaled K w t g p i) where
  abbrev held : List ℕ
  held = take (s + w - s) (drop s p)

  long : length y ≡ w
  long = kept ∙ part_length w s p fits

  pub scaled_more : Multiplied K g (cut_row w t i) held y (Ok tt) → Scaled K w t g (put_mid s k p y) (i + 1)
  scaled_more d = record {
    inside = λ ht hg. put_inside w i s k p y at fits long K (u.inside ht hg) (d hg (row_inside K w t i ht)).0;
    is = λ lw ht hg j lt. each lw ht hg j (cases_lt j i) lt;
  }
    where
      each : (lw : Laws K) → Inside K t → Inside K g → (j : ℕ) → (j < i) ⊎ (i ≤ j) → j < i + 1 → polynomial lw (cut_row w (put_mid s k p y) j) ≡ (polynomials lw).mul (polynomial lw g) (polynomial lw (cut_row w t j))
      each lw ht hg j (inl l) lt = ap (polynomial lw) (put_same w i s k p y at fits long j l) ∙ u.is lw ht hg j l
      each lw ht hg j (inr l) lt =
          let e : i ≡ j = omega arith in
          let here : polynomial lw (cut_row w (put_mid s k p y) i) ≡ (polynomials lw).mul (polynomial lw g) (polynomial lw (cut_row w t i)) = ap (polynomial lw) (put_here w i s k p y at fits long) ∙ (d hg (row_inside K w t i ht)).1 lw in
          subst (λ (j : ℕ). polynomial lw (cut_row w (put_mid s k p y) j) ≡ (polynomials lw).mul (polynomial lw g) (polynomial lw (cut_row w t j))) e here

  pub scaled_refused : (e : NoRoom) → Multiplied K g (cut_row w t i) held y (Err e) → ManyTimes K w t g (put_mid s k p y) (Err e)
  scaled_refused e (same, none) ht hg =
      let hp = u.inside ht hg in
      let wide = part_length w s p fits in
      let (m, sm) = sized_any K g in
      let (n, sn) = sized_any K (cut_row w t i) in
      let (pm, pn, over) = none m n sm sn in (
        put_inside w i s k p y at fits long K hp (subst (λ (l : List ℕ). Inside K l) (sym (same ∙ part_row w i s p at)) (row_inside K w p i hp)),
        λ lw. no_place lw w t g i m n (size_is lw g m hg sm) (ap (size (elements lw)) (of_rows lw w t i) ∙ size_is lw (cut_row w t i) n (row_inside K w t i ht) sn) pm pn (omega arith),
      )

pub scaled_all : (K : Arithmetic) (w : ℕ) (t g p : List ℕ) (i : ℕ) → length t ≡ 16 * w → length p ≡ length t → i ≡ 16 → Scaled K w t g p i → ManyTimes K w t g p (Ok tt)
scaled_all K w t g p i long along e u ht hg = (u.inside ht hg, λ lw. same (polynomials lw) (poly_discrete (elements lw) (element_discrete K)) (fun_ext λ j. row lw j (cases_lt j 16) ∙ sym (coef_scale (polynomials lw) (poly_discrete (elements lw) (element_discrete K)) (polynomial lw g) (polynomial_xy lw w t) j)))
  where
    row : (lw : Laws K) (j : ℕ) → (j < 16) ⊎ (16 ≤ j) → (polynomial_xy lw w p).0 j ≡ (polynomials lw).mul (polynomial lw g) ((polynomial_xy lw w t).0 j)
    row lw j (inl lt) = of_rows lw w p j ∙ u.is lw ht hg j (omega arith) ∙ ap ((polynomials lw).mul (polynomial lw g)) (sym (of_rows lw w t j))
    row lw j (inr far) = of_past lw w p j (along ∙ long) far ∙ sym (ap ((polynomials lw).mul (polynomial lw g)) (of_past lw w t j long far) ∙ mul_zero (polynomials lw) _)
