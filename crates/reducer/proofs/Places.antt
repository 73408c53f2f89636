-- The held points and the rows beside them: looking for one, and writing one.
use borrow.Rule.Slice.PartMut.{put_mid}
use Rattle.std.proofs.Common.{◌≡◌, ℕ, zero, suc, ◌+◌, ◌-◌, ◌*◌, ◌<◌, ◌≤◌, true, ◌||◌, eqb, ◌⊎◌, List, [], ◌∷◌, length, take, drop, sym, refl, ap, ap₂, ◌∙◌, subst, inl, inr, arith, ne_eqb}
use Rattle.std.proofs.lemmas.List.{drop-take}
use Rattle.std.proofs.lemmas.Slice.{take-put_mid_below, drop-put_mid, between-put_mid}
use Rattle.std.proofs.lemmas.Bool.{cases_lt, cases_eq}
use Rattle.polynomials.specs.Rows.{cut_row}
use Rattle.std.specs.List.{list_any}
use Rattle.rules.specs.Offer.{member, any}
use Rattle.reducer.specs.Held.{Placed}

eqb_sym : (x y : ℕ) → eqb x y ≡ eqb y x
eqb_sym x y = elim (cases_eq x y) [ inl e ↦ rw e refl | inr n ↦ ne_eqb x y n ∙ sym (ne_eqb y x (λ e. n (sym e))) ]

-- looking for a point, in the words of the rules
pub any_member : (α : ℕ) (xs : List ℕ) → list_any (λ x. eqb x α) xs ≡ member α xs
any_member α [] = refl
any_member α (x ∷ xs) = ap₂ ◌||◌ (eqb_sym x α) (any_member α xs)

-- one of 31 rows of 16 codes is written
pub placed : (t r : List ℕ) (i n : ℕ) → n ≡ 16 → length t ≡ 496 → length r ≡ 16 → i < 31 → Placed t i r (put_mid (16 * i) n t r)
placed t r i n n_is lt lr within = record { here = here; others = λ k ne. go k ne (cases_lt k i) }
  where
    here : cut_row 16 (put_mid (16 * i) n t r) i ≡ r
    here =
        let width : (16 * i + 16) - 16 * i ≡ 16 = omega arith in
        subst (λ (k : ℕ). take k (drop (16 * i) (put_mid (16 * i) n t r)) ≡ r) width (between-put_mid (16 * i) n t r (16 * i + 16) (omega arith) (omega arith))

    go : (k : ℕ) → ¬ (k ≡ i) → (k < i) ⊎ (i ≤ k) → cut_row 16 (put_mid (16 * i) n t r) k ≡ cut_row 16 t k
    go k ne (inl l) = sym (drop-take (16 * k) 16 (put_mid (16 * i) n t r)) ∙ ap (drop (16 * k)) (take-put_mid_below (16 * i) n t r (16 * k + 16) (omega arith) (omega arith)) ∙ drop-take (16 * k) 16 t
    go k ne (inr le) = ap (take 16) (drop-put_mid (16 * i) n t r (16 * k) (omega arith) (omega arith) (omega arith))

pub any_take : (n : ℕ) (xs : List ℕ) → 0 < n → 0 < length xs → any (take n xs) ≡ true
any_take zero xs h l = absurd (omega arith)
any_take (suc n) [] h l = absurd (omega arith)
any_take (suc n) (x ∷ xs) h l = refl
