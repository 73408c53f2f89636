-- The elements that wait in a counting source.
use Rattle.std.proofs.Common.{◌≡◌, ℕ, zero, suc, ◌+◌, ◌-◌, ◌<◌, ◌≤◌, min, Bool, true, false, ltb, [], ◌∷◌, map, Some, Option, sym, refl, ap, ap₂, ◌∙◌, subst, le_trans, arith}
use Rattle.std.proofs.lemmas.Bool.{lt-ltb, le-ltb, ltb-true, ltb-false}
use Rattle.std.proofs.Math.Nat.{min-le_right, le-min}
use Rattle.std.proofs.lemmas.List.FromFn.{length-map-range_with_len, get_or-map-range_with_len}
use Rattle.std.specs.List.{range_with_len}
use Rattle.coefficients.specs.Listing.{when}
use Rattle.points.specs.Waiting.{Drawn, InPlaces, some_left, counting_from}

-- the first is drawn, and one place less is left
pub counted_drawn : (nth : ℕ → ℕ) (i n j m : ℕ) (r : Option ℕ) → i < n → j ≡ i + 1 → m ≡ n → r ≡ Some (nth i) → Drawn (counting_from nth n i) (counting_from nth m j) r
counted_drawn nth i n j m r h next same e =
    let d : n - i ≡ suc (m - j) = omega arith in
    subst (Drawn (counting_from nth n i) (counting_from nth m j)) (sym e)
    (ap (λ k. map nth (range_with_len i k)) d ∙ ap (λ k. nth i ∷ map nth (range_with_len k (m - j))) (sym next))

-- a place below the end is drawn where the kind has one, and past its last nothing waits
pub counted_step : (nth : ℕ → ℕ) (i e n j f m : ℕ) (r : Option ℕ) → i < e → j ≡ i + 1 → f ≡ e → m ≡ n → r ≡ when (ltb i n) (nth i) → Drawn (counting_from nth (min e n) i) (counting_from nth (min f m) j) r
counted_step nth i e n j f m r h next same same' is = go (ltb i n) refl
  where
    ends : min f m ≡ min e n
    ends = ap₂ min same same'

    none : (k l : ℕ) → k ≤ l → counting_from nth k l ≡ []
    none k l past = let d : k - l ≡ 0 = omega arith in ap (λ x. map nth (range_with_len l x)) d

    go : (b : Bool) → ltb i n ≡ b → Drawn (counting_from nth (min e n) i) (counting_from nth (min f m) j) r
    go true t = counted_drawn nth i (min e n) j (min f m) r (le-min h (ltb-true i n t)) next ends (is ∙ ap (λ b. when b (nth i)) t)
    go false t =
        let past : n ≤ i = ltb-false i n t in
        let low : min e n ≤ i = le_trans (min-le_right e n) past in
        subst (Drawn (counting_from nth (min e n) i) (counting_from nth (min f m) j)) (sym (is ∙ ap (λ b. when b (nth i)) t))
        (none (min e n) i low, none (min f m) j (omega (arith, low, ends, next)))

pub in_places : (nth : ℕ → ℕ) (count : ℕ) → InPlaces nth count (counting_from nth count 0)
in_places nth count = record {
  all = (let whole : count - 0 ≡ count = omega arith in length-map-range_with_len nth 0 (count - 0) ∙ whole);
  each = λ n h. get_or-map-range_with_len nth 0 (count - 0) n n 0 (omega arith) (omega arith);
}

left_by : (nth : ℕ → ℕ) (i n d : ℕ) → n - i ≡ d → ltb i n ≡ some_left (map nth (range_with_len i d))
left_by nth i n zero e = le-ltb i n (omega arith)
left_by nth i n (suc d) e = lt-ltb i n (omega arith)

pub counted_left : (nth : ℕ → ℕ) (i n : ℕ) → ltb i n ≡ some_left (counting_from nth n i)
counted_left nth i n = left_by nth i n (n - i) refl
