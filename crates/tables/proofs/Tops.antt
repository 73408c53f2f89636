-- One step of the long division of a table by another: the top row divided, and the multiple taken away.
use borrow.Rule.Slice.PartMut.{put_mid}
use Rattle.std.proofs.Common.{◌≡◌, ℕ, suc, ◌+◌, ◌-◌, ◌*◌, ◌<◌, ◌≤◌, ◌⊎◌, List, length, take, drop, Ok, Err, sym, ap, ◌∙◌, subst, inl, inr, mul-le-mul_left, mul-suc, arith}
use Rattle.std.proofs.lemmas.Slice.{drop-put_mid, between-put_mid}
use Rattle.std.proofs.lemmas.Bool.{cases_lt}
use Rattle.coefficients.specs.Arithmetic.{Arithmetic, Laws}
use Rattle.polynomials.specs.Elements.{polynomial, polynomials}
use Rattle.polynomials.specs.Rows.{Inside, cut_row}
use Rattle.polynomials.proofs.Inverse.{stuck}
use Rattle.polynomials.specs.declared.product.NoRoom.{NoRoom}
use Rattle.tables.specs.declared.faults.DivisionFault.{DivisionFault}
use Rattle.tables.specs.declared.faults.DivisionFault.TheVariants.{Reciprocal, Uneven}
use Rattle.tables.specs.Degrees.{SizedX}
use Rattle.tables.specs.Content.{Even}
use Rattle.tables.specs.Exact.{Factor, Taking, CutTop}
use Rattle.tables.proofs.Sizes.{row_inside, of_rows}
use Rattle.tables.proofs.Evenly.{part_length, put_inside, put_same, put_here}
use Rattle.tables.proofs.Multiples.{sized_any}
use Rattle.tables.proofs.MonicRows.{lead_positive}

module _ (K : Arithmetic) (w : ℕ) (t b : List ℕ) (s n : ℕ) (held y : List ℕ) (start : ℕ) (at : start ≡ w * s) (fits : start + w ≤ length held) (kept : length y ≡ length (take (start + w - start) (drop start held))) where
  abbrev k : ℕ
  k = start + w - start

  abbrev q : List ℕ
  q = put_mid start k held y

  long : length y ≡ w
  long = kept ∙ part_length w start held fits

  here : take k (drop start q) ≡ y
  here = let l = long in between-put_mid start k held y (start + w) (omega arith) (omega arith)

  others : (j : ℕ) → (j ≡ s → ⊥) → cut_row w q j ≡ cut_row w held j
  others j ne = go (cases_lt j s)
    where
      go : (j < s) ⊎ (s ≤ j) → cut_row w q j ≡ cut_row w held j
      go (inl l) = put_same w s start k held y at fits long j l
      go (inr le) =
          let l = long in
          let once : w * suc s ≡ w * s + w = mul-suc w s in
          let far : w * suc s ≤ w * j = mul-le-mul_left w (up le) in
          ap (take w) (drop-put_mid start k held y (w * j) (omega arith) (omega arith) (omega arith))
        where
          up : s ≤ j → suc s ≤ j
          up le = omega arith

  module _ (d : Even K (cut_row w t (s + n - 1)) (cut_row w b (n - 1)) (cut_row w held s) y (Ok tt)) where
    factor_is : (lw : Laws K) → Inside K t → Inside K b → Factor lw w t b s n (polynomial lw y)
    factor_is lw ht hb = of_rows lw w t (s + n - 1) ∙ ((d (row_inside K w t (s + n - 1) ht) (row_inside K w b (n - 1) hb)).1 lw).1 ∙ ap (λ x. (polynomials lw).mul x (polynomial lw y)) (sym (of_rows lw w b (n - 1)))

    pub cut_done : (t' : List ℕ) → Taking K w t b s (take k (drop start q)) t' (Ok tt) → CutTop K w t b s n held t' q (Ok tt)
    cut_done t' taken ht hb hh =
        let u = rw here at taken in
        let inside = (d (row_inside K w t (s + n - 1) ht) (row_inside K w b (n - 1) hb)).0 in
        let told = u ht hb inside in (
          told.0,
          put_inside w s start k held y at fits long K hh inside,
          λ lw. record {
            factor = polynomial lw y;
            is = factor_is lw ht hb;
            less = told.1 lw;
            here = of_rows lw w q s ∙ ap (polynomial lw) (put_here w s start k held y at fits long);
            others = λ j ne. of_rows lw w q j ∙ ap (polynomial lw) (others j ne) ∙ sym (of_rows lw w held j);
          },
        )

    pub cut_no_room : (t' : List ℕ) (e : NoRoom) → Taking K w t b s (take k (drop start q)) t' (Err e) → CutTop K w t b s n held t' q (Err Uneven)
    cut_no_room t' e (same, untaken) ht hb hh =
        let none = rw here at untaken in
        let inside = (d (row_inside K w t (s + n - 1) ht) (row_inside K w b (n - 1) hb)).0 in
        (subst (λ (l : List ℕ). Inside K l) (sym same) ht, put_inside w s start k held y at fits long K hh inside, λ lw. inr (polynomial lw y, factor_is lw ht hb, none hb inside lw))

  pub cut_refused : 0 < n → SizedX K w b n → (e : DivisionFault) → Even K (cut_row w t (s + n - 1)) (cut_row w b (n - 1)) (cut_row w held s) y (Err e) → CutTop K w t b s n held t q (Err e)
  cut_refused pos sized (Reciprocal e) (no_way, kept) = λ ht hb hh.
      let (m, lead) = sized_any K (cut_row w b (n - 1)) in
      (ht, put_inside w s start k held y at fits long K hh (subst (λ (l : List ℕ). Inside K l) (sym kept) (row_inside K w held s hh)), stuck K (cut_row w b (n - 1)) m (lead_positive K w b n m pos sized lead) lead (row_inside K w b (n - 1) hb) e no_way)
  cut_refused pos sized Uneven d = λ ht hb hh.
      let told = d (row_inside K w t (s + n - 1) ht) (row_inside K w b (n - 1) hb) in
      (ht, put_inside w s start k held y at fits long K hh told.0, λ lw. inl (λ only (x, e). (told.1 lw).1 (inl only) (x, sym (of_rows lw w t (s + n - 1)) ∙ e ∙ ap (λ g. (polynomials lw).mul g x) (of_rows lw w b (n - 1)))))
