-- A point that is held: the points and images after it, and the rule's answer.
use Rattle.std.proofs.Common.{◌≡◌, ℕ, zero, suc, ◌+◌, ◌-◌, ◌*◌, ◌<◌, ◌≤◌, Bool, true, false, cond, ◌&&◌, ◌||◌, eqb, ltb, leb, ◌⊎◌, List, [], ◌∷◌, ◌++◌, length, get_or, take, drop, set, sym, refl, ap, ◌∙◌, subst, inl, inr, add-one, arith, length-take, get_or-take, take-suc-set, ltb-false}
use borrow.Author.Tests.{eqb-false}
use Rattle.std.proofs.lemmas.List.{drop-take, take-take}
use Rattle.std.proofs.lemmas.Bool.{cases_eq}
use Rattle.coefficients.specs.Arithmetic.{Arithmetic}
use Rattle.algebra.specs.Lists.{All, Distinct}
use Rattle.polynomials.specs.Rows.{cut_row}
use Rattle.rules.specs.Job.{State}
use Rattle.rules.specs.Offer.{member, any, too_high, let_go, held_with}
use Rattle.steps.specs.declared.factored.Factored.{Factored}
use Rattle.steps.specs.Look.{ImagesOf}
use Rattle.steps.specs.Trial.{Gathered}
use Rattle.reducer.specs.declared.job.Job.{Job}
use Rattle.reducer.specs.State.{state_of}
use Rattle.reducer.specs.Held.{Written}
use Rattle.reducer.specs.Sound.{Holds}
use Rattle.reducer.proofs.Places.{any_take}
use Rattle.reducer.proofs.Sounds.{holds_kept}

-- a point that is not among some differs from all of them
apart_all : (α : ℕ) (l : List ℕ) → member α l ≡ false → All (λ β. ¬ (β ≡ α)) l
apart_all α [] e = tt
apart_all α (β ∷ l) e = go (eqb α β) refl e (apart_all α l)
  where
    go : (t : Bool) → eqb α β ≡ t → (t || member α l) ≡ false → (member α l ≡ false → All (λ γ. ¬ (γ ≡ α)) l) → All (λ γ. ¬ (γ ≡ α)) (β ∷ l)
    go true q f rest = let z : ◌≡◌ {A = ℕ} 0 1 = cc in absurd (omega arith)
    go false q f rest = (λ z. eqb-false α β q (sym z), rest f)

distinct_more : (l : List ℕ) (α : ℕ) → Distinct l → All (λ β. ¬ (β ≡ α)) l → Distinct (l ++ α ∷ [])
distinct_more [] α d n = (tt, tt)
distinct_more (β ∷ l) α d n = (more l d.0 (λ e. n.0 (sym e)), distinct_more l α d.1 n.1)
  where
    more : (l : List ℕ) → All (λ γ. ¬ (γ ≡ β)) l → ¬ (α ≡ β) → All (λ γ. ¬ (γ ≡ β)) (l ++ α ∷ [])
    more [] h m = (m, tt)
    more (γ ∷ l) h m = (h.0, more l h.1 m)

-- one more point is written behind the first n
pub take_more : (n : ℕ) (xs : List ℕ) (α : ℕ) → n < length xs → take (n + 1) (set xs n α) ≡ take n xs ++ α ∷ []
take_more n xs α lt = rw add-one (take-suc-set xs n α lt)

pub take_less : (n : ℕ) (xs : List ℕ) (α : ℕ) → take n (set xs n α) ≡ take n xs
take_less zero xs α = refl
take_less (suc n) [] α = refl
take_less (suc n) (x ∷ xs) α = ap (λ l. x ∷ l) (take_less n xs α)

pub take_last : (n : ℕ) (xs : List ℕ) → n < length xs → take (n + 1) xs ≡ take n xs ++ get_or xs n 0 ∷ []
take_last n [] lt = absurd (omega arith)
take_last zero (x ∷ xs) lt = refl
take_last (suc n) (x ∷ xs) lt = let e = take_last n xs (omega arith) in rw add-one (ap (λ l. x ∷ l) (rw add-one at e))

pub set_here : (n : ℕ) (xs : List ℕ) (α : ℕ) → n < length xs → get_or (set xs n α) n 0 ≡ α
set_here n [] α lt = absurd (omega arith)
set_here zero (x ∷ xs) α lt = refl
set_here (suc n) (x ∷ xs) α lt = set_here n xs α (omega arith)

pub set_other : (n i : ℕ) (xs : List ℕ) (α : ℕ) → ¬ (i ≡ n) → get_or (set xs n α) i 0 ≡ get_or xs i 0
set_other n i [] α ne = refl
set_other zero zero (x ∷ xs) α ne = absurd (ne refl)
set_other zero (suc i) (x ∷ xs) α ne = refl
set_other (suc n) zero (x ∷ xs) α ne = refl
set_other (suc n) (suc i) (x ∷ xs) α ne = set_other n i xs α (λ e. ne (ap suc e))

-- the same images in equal rows
pub images_same : {K : Arithmetic} {a b : List ℕ} {k α α' : ℕ} {d d' l l' r r' : List ℕ} → α ≡ α' → d ≡ d' → l ≡ l' → r ≡ r' → ImagesOf K a b α k d l r → ImagesOf K a b α' k d' l' r'
images_same {K = K} {a = a} {b = b} {k = k} {α = α} {α' = α'} {d = d} {d' = d'} {l = l} {l' = l'} {r = r} {r' = r'} e x y z t =
    subst (λ (v : List ℕ). ImagesOf K a b α' k d' l' v) z (subst (λ (v : List ℕ). ImagesOf K a b α' k d' v r) y (subst (λ (v : List ℕ). ImagesOf K a b α' k v l r) x (subst (λ (v : ℕ). ImagesOf K a b v k d l r) e t)))

-- the first n points and one more, with its images
pub holds_more : {K : Arithmetic} (a b : List ℕ) (k n : ℕ) (points : List ℕ) (images images' : Factored 496) (α : ℕ) (rows : Factored 16) → n < length points → Holds K a b k n points images → K.element α ≡ true → member α (take n points) ≡ false → ImagesOf K a b α k rows.divisor rows.left rows.right →
    Written images n rows images' → Holds K a b k (n + 1) (set points n α) images'
holds_more {K = K} a b k n points images images' α rows lt h αi fresh new w = record {
  inside = λ i le. inside i le (cases_eq i n);
  distinct = subst Distinct (sym (take_more n points α lt)) (distinct_more (take n points) α h.distinct (apart_all α (take n points) fresh));
  are_images = λ i le. at i le (cases_eq i n);
}
  where
    inside : (i : ℕ) → i < n + 1 → (i ≡ n) ⊎ (¬ (i ≡ n)) → K.element (get_or (set points n α) i 0) ≡ true
    inside i le (inl e) = ap (λ m. K.element (get_or (set points n α) m 0)) e ∙ ap K.element (set_here n points α lt) ∙ αi
    inside i le (inr ne) = ap K.element (set_other n i points α ne) ∙ h.inside i (omega arith)

    at : (i : ℕ) → i < n + 1 → (i ≡ n) ⊎ (¬ (i ≡ n)) → ImagesOf K a b (get_or (set points n α) i 0) k (cut_row 16 images'.divisor i) (cut_row 16 images'.left i) (cut_row 16 images'.right i)
    at i le (inl e) = images_same (sym (ap (λ m. get_or (set points n α) m 0) e ∙ set_here n points α lt)) (sym (ap (cut_row 16 images'.divisor) e ∙ w.divisor.here)) (sym (ap (cut_row 16 images'.left) e ∙ w.left.here)) (sym (ap (cut_row 16 images'.right) e ∙ w.right.here)) new
    at i le (inr ne) = images_same (sym (set_other n i points α ne)) (sym (w.divisor.others i ne)) (sym (w.left.others i ne)) (sym (w.right.others i ne)) (h.are_images i (omega arith))

-- the first n points, where one more is written behind them
pub holds_less : {K : Arithmetic} (a b : List ℕ) (k n : ℕ) (points : List ℕ) (images images' : Factored 496) (α : ℕ) (rows : Factored 16) → Holds K a b k n points images → Written images n rows images' → Holds K a b k n (set points n α) images'
holds_less {K = K} a b k n points images images' α rows h w = record {
  inside = λ i lt. ap K.element (set_other n i points α (apart i lt)) ∙ h.inside i lt;
  distinct = subst Distinct (sym (take_less n points α)) h.distinct;
  are_images = λ i lt. let ne = apart i lt in images_same (sym (set_other n i points α ne)) (sym (w.divisor.others i ne)) (sym (w.left.others i ne)) (sym (w.right.others i ne)) (h.are_images i lt);
}
  where
    apart : (i : ℕ) → i < n → ¬ (i ≡ n)
    apart i lt e = absurd (omega arith)

-- nothing is held
pub holds_none : {K : Arithmetic} (a b : List ℕ) (k : ℕ) (points : List ℕ) (images : Factored 496) → Holds K a b k 0 points images
holds_none a b k points images = record { inside = λ i lt. absurd (omega arith); distinct = tt; are_images = λ i lt. absurd (omega arith) }

-- the first n rows of 16 codes, and one of them
first_row : (n i : ℕ) (t : List ℕ) → i < n → cut_row 16 (take (16 * n) t) i ≡ cut_row 16 t i
first_row n i t lt = sym (drop-take (16 * i) 16 (take (16 * n) t)) ∙ ap (drop (16 * i)) (take-take (16 * i + 16) (16 * n) t (omega arith)) ∙ drop-take (16 * i) 16 t

-- the first n points with their images, by themselves
pub gathered_first : {K : Arithmetic} (a b : List ℕ) (k n : ℕ) (points : List ℕ) (f : Factored 496) → n ≤ length points → Holds K a b k n points f → Gathered K a b k (take n points) (take (16 * n) f.divisor) (take (16 * n) f.left) (take (16 * n) f.right)
gathered_first {K = K} a b k n points f lp h = record {
  inside = λ i lt. let le = below i lt in ap K.element (get_or-take n points i 0 le) ∙ h.inside i le;
  distinct = h.distinct;
  images = λ i lt. let le = below i lt in images_same (sym (get_or-take n points i 0 le)) (sym (first_row n i f.divisor le)) (sym (first_row n i f.left le)) (sym (first_row n i f.right le)) (h.are_images i le);
}
  where
    below : (i : ℕ) → i < length (take n points) → i < n
    below i lt = let e = length-take n points in omega arith

-- n of the held points are kept beside a point of degree k: none where that is below their degree, else all
module _ (j : Job) (k n : ℕ) (n_is : n ≡ cond (ltb k j.level) 0 j.counts.held) (few : j.counts.held < 31) where
  abbrev s : State
  s = state_of j

  pub kept_some : n ≤ j.counts.held
  kept_some = go (ltb k j.level) n_is
    where
      go : (t : Bool) → n ≡ cond t 0 j.counts.held → n ≤ j.counts.held
      go true e = omega arith
      go false e = omega arith

  pub kept_with : (α : ℕ) → length j.points ≡ 31 → take (n + 1) (set j.points n α) ≡ held_with s k α
  kept_with α long = take_more n j.points α (let le = kept_some in omega arith) ∙ go (ltb k j.level) n_is
    where
      go : (t : Bool) → n ≡ cond t 0 j.counts.held → take n j.points ++ α ∷ [] ≡ cond t [] (take j.counts.held j.points) ++ α ∷ []
      go true e = ap (λ m. take m j.points ++ α ∷ []) e
      go false e = ap (λ m. take m j.points ++ α ∷ []) e

  pub gone_number : length j.points ≡ 31 → j.counts.held - n ≡ let_go s k
  gone_number long = go (ltb k j.level) n_is
    where
      whole : length (take j.counts.held j.points) ≡ j.counts.held
      whole = simp length-take (omega arith)

      go : (t : Bool) → n ≡ cond t 0 j.counts.held → j.counts.held - n ≡ cond t (length (take j.counts.held j.points)) 0
      go true e = let w = whole in omega arith
      go false e = omega arith

  -- what is held with the new point, all of one degree
  pub holds_with : {K : Arithmetic} (a b : List ℕ) (α : ℕ) (rows : Factored 16) (images' : Factored 496) → length j.points ≡ 31 → Holds K a b j.level j.counts.held j.points j.images → K.element α ≡ true → member α s.held ≡ false → too_high s k ≡ false →
      ImagesOf K a b α k rows.divisor rows.left rows.right → Written j.images n rows images' → Holds K a b k (n + 1) (set j.points n α) images'
  holds_with {K = K} a b α rows images' long h αi fresh low new w = go (ltb k j.level) refl n_is
    where
      more : Holds K a b k n j.points j.images → member α (take n j.points) ≡ false → Holds K a b k (n + 1) (set j.points n α) images'
      more x f = holds_more a b k n j.points j.images images' α rows (let le = kept_some in omega arith) x αi f new w

      -- where points are held and kept, the degree is theirs
      same : (m : ℕ) → m ≡ j.counts.held → ltb k j.level ≡ false → Holds K a b k m j.points j.images
      same zero e f = holds_none a b k j.points j.images
      same (suc m) e f = holds_kept (level_is (leb j.ceiling k) (any (take j.counts.held j.points)) (any_take j.counts.held j.points (omega arith) (omega arith)) (ltb j.level k) refl low) (sym e) refl refl h
        where
          level_is : (x y : Bool) → y ≡ true → (z : Bool) → ltb j.level k ≡ z → (x || (y && z)) ≡ false → j.level ≡ k
          level_is true y ye z ze q = let w : ◌≡◌ {A = ℕ} 0 1 = cc in absurd (omega arith)
          level_is false true ye true ze q = let w : ◌≡◌ {A = ℕ} 0 1 = cc in absurd (omega arith)
          level_is false true ye false ze q = let u = ltb-false j.level k ze in let v = ltb-false k j.level f in omega arith
          level_is false false ye z ze q = let w : ◌≡◌ {A = ℕ} 0 1 = cc in absurd (omega arith)

      go : (t : Bool) → ltb k j.level ≡ t → n ≡ cond t 0 j.counts.held → Holds K a b k (n + 1) (set j.points n α) images'
      go true t e = more (holds_kept refl (sym e) refl refl (holds_none a b k j.points j.images)) (ap (λ m. member α (take m j.points)) e)
      go false t e = more (same n e t) (ap (λ m. member α (take m j.points)) e ∙ fresh)
