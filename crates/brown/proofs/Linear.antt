-- Homogeneous linear systems over a field: more unknowns than equations leave a solution that is not zero.
use Rattle.std.proofs.Common.{◌≡◌, ℕ, zero, suc, ◌<◌, ◌⊎◌, List, [], ◌∷◌, map, length, sym, refl, ap, ◌∙◌, ap₂, inl, inr, arith}
use Rattle.algebra.specs.Ring.{Ring, ring, ring_eq, combine}
use Rattle.algebra.specs.Series.{Series, sadd, scale}
use Rattle.algebra.specs.Field.{Field, inv_mul}
use Rattle.algebra.specs.Lists.{All}

-- a linear form on vectors: an equation says that it is zero
pub record Form {E : Type 0} (R : Ring E) : Type 0 where
  pub form : Series E → E
  pub form_add : (f g : Series E) → form (sadd R f g) ≡ R.add (form f) (form g)
  pub form_scale : (c : E) (f : Series E) → form (scale R c f) ≡ R.mul c (form f)

-- c satisfies every equation
abbrev pub Solves : {E : Type 0} (R : Ring E) → Series E → List (Form R) → Type 0
Solves R c l = All (λ L. L.form c ≡ R.zero) l

module _ {E : Type 0} (F : Field E) where
  open F use {ring as R, inv, discrete, zero≢one}
  open R use {zero as 𝟘, one as 𝟙, add as ◌⊕◌, neg as ⊖◌, mul as ◌⊙◌}

  infixl 60 ◌⊕◌
  infixl 70 ◌⊙◌
  infix 80 ⊖◌
  -- one at n, and zero elsewhere
  unit : ℕ → Series E
  unit zero zero = 𝟙
  unit zero (suc k) = 𝟘
  unit (suc n) zero = 𝟘
  unit (suc n) (suc k) = unit n k

  unit_at : (n : ℕ) → unit n n ≡ 𝟙
  unfolding unit
  unit_at zero = refl
  unit_at (suc n) = unit_at n

  unit_below : (n k : ℕ) → k < n → unit n k ≡ 𝟘
  unfolding unit
  unit_below zero k l = absurd (omega arith)
  unit_below (suc n) zero l = refl
  unit_below (suc n) (suc k) l = unit_below n k (omega arith)

  -- M less the multiple of L that makes it zero at v
  reduce : Series E → Form R → Form R → Form R
  reduce v L M = record { form = λ c. M.form c ⊕ ⊖ (k ⊙ L.form c); form_add = a; form_scale = s }
    where
      k : E
      k = M.form v ⊙ inv (L.form v)

      sum : (k a b c d : E) → a ⊕ b ⊕ ⊖ (k ⊙ (c ⊕ d)) ≡ a ⊕ ⊖ (k ⊙ c) ⊕ (b ⊕ ⊖ (k ⊙ d))
      sum k a b c d = simp ring

      out : (k x a b : E) → x ⊙ a ⊕ ⊖ (k ⊙ (x ⊙ b)) ≡ x ⊙ (a ⊕ ⊖ (k ⊙ b))
      out k x a b = simp ring

      a : (f g : Series E) → M.form (sadd R f g) ⊕ ⊖ (k ⊙ L.form (sadd R f g)) ≡ M.form f ⊕ ⊖ (k ⊙ L.form f) ⊕ (M.form g ⊕ ⊖ (k ⊙ L.form g))
      a f g = ap₂ (λ x y. x ⊕ ⊖ (k ⊙ y)) (M.form_add f g) (L.form_add f g) ∙ sum k _ _ _ _

      s : (c : E) (f : Series E) → M.form (scale R c f) ⊕ ⊖ (k ⊙ L.form (scale R c f)) ≡ c ⊙ (M.form f ⊕ ⊖ (k ⊙ L.form f))
      s c f = ap₂ (λ x y. x ⊕ ⊖ (k ⊙ y)) (M.form_scale c f) (L.form_scale c f) ∙ out k c _ _

  -- an equation in which v counts, and the others
  record Pivot (v : Series E) (l : List (Form R)) : Type 0 where
    equation : Form R
    nonzero : ¬ (equation.form v ≡ 𝟘)
    rest : List (Form R)
    shorter : suc (length rest) ≡ length l
    back : (c : Series E) → equation.form c ≡ 𝟘 → Solves R c rest → Solves R c l

  pivot : (v : Series E) (l : List (Form R)) → Solves R v l ⊎ Pivot v l
  pivot v [] = inl tt
  pivot v (L ∷ l) = go (discrete (L.form v) 𝟘) (pivot v l)
    where
      go : Dec (L.form v ≡ 𝟘) → Solves R v l ⊎ Pivot v l → Solves R v (L ∷ l) ⊎ Pivot v (L ∷ l)
      go (no n) h = inr (record { equation = L; nonzero = n; rest = l; shorter = refl; back = λ c e s. (e, s) })
      go (yes e) (inl s) = inl (e, s)
      go (yes e) (inr p) = inr (record { equation = p.equation; nonzero = p.nonzero; rest = L ∷ p.rest; shorter = ap suc p.shorter; back = λ c z s. (s.0, p.back c z s.1) })

  -- c moved along v until L is zero
  module _ (v : Series E) (L : Form R) (n : ¬ (L.form v ≡ 𝟘)) where
    move : Series E → Series E
    move c = sadd R c (scale R (⊖ (L.form c ⊙ inv (L.form v))) v)

    -- nothing moves where v is zero
    unmoved : (c : Series E) (k : ℕ) → v k ≡ 𝟘 → move c k ≡ c k
    unfolding move
    unmoved c k e = ap (λ x. c k ⊕ ⊖ (L.form c ⊙ inv (L.form v)) ⊙ x) e ∙ simp ring

    moved : (M : Form R) (c : Series E) → M.form (move c) ≡ M.form c ⊕ ⊖ (L.form c ⊙ inv (L.form v)) ⊙ M.form v
    unfolding move
    moved M c = M.form_add _ _ ∙ ap (λ x. M.form c ⊕ x) (M.form_scale _ v)

    moved_zero : (c : Series E) → L.form (move c) ≡ 𝟘
    moved_zero c = moved L c ∙ law (L.form c) (inv (L.form v)) (L.form v) (inv_mul F _ n)
      where
        law : (a i b : E) → i ⊙ b ≡ 𝟙 → a ⊕ ⊖ (a ⊙ i) ⊙ b ≡ 𝟘
        law a i b e = combine R (⊖ a) e (simp ring_eq)

    moved_rest : (M : Form R) (c : Series E) → (reduce v L M).form c ≡ 𝟘 → M.form (move c) ≡ 𝟘
    unfolding reduce
    moved_rest M c e = moved M c ∙ law _ _ _ _ ∙ e
      where
        law : (m i a b : E) → m ⊕ ⊖ (a ⊙ i) ⊙ b ≡ m ⊕ ⊖ (b ⊙ i ⊙ a)
        law m i a b = simp ring

    moved_all : (l : List (Form R)) (c : Series E) → Solves R c (map (reduce v L) l) → Solves R (move c) l
    moved_all [] c s = tt
    moved_all (M ∷ l) c s = (moved_rest M c s.0, moved_all l c s.1)

  -- a vector that is not zero among its first n entries
  pub record Solution (n : ℕ) (l : List (Form R)) : Type 0 where
    pub vector : Series E
    pub place : ℕ
    pub inside : place < n
    pub nonzero : ¬ (vector place ≡ 𝟘)
    pub solves : Solves R vector l

  length_map : {A B : Type 0} (f : A → B) (l : List A) → length (map f l) ≡ length l
  length_map f [] = refl
  length_map f (a ∷ l) = ap suc (length_map f l)

  step : (n : ℕ) (l : List (Form R)) (p : Pivot (unit n) l) → Solution n (map (reduce (unit n) p.equation) p.rest) → Solution (suc n) l
  step n l p t =
      let i = t.inside in
      record {
        vector = move (unit n) p.equation p.nonzero t.vector;
        place = t.place;
        inside = omega arith;
        nonzero = λ e. t.nonzero (sym (unmoved (unit n) p.equation p.nonzero t.vector t.place (unit_below n t.place i)) ∙ e);
        solves = p.back _ (moved_zero (unit n) p.equation p.nonzero t.vector) (moved_all (unit n) p.equation p.nonzero p.rest t.vector t.solves);
      }

  -- fewer equations than unknowns
  pub solution : (n : ℕ) (l : List (Form R)) → length l < n → Solution n l
  solution zero l h = absurd (omega arith)
  solution (suc n) l h = go (solution n) (pivot (unit n) l)
    where
      go : ((k : List (Form R)) → length k < n → Solution n k) → Solves R (unit n) l ⊎ Pivot (unit n) l → Solution (suc n) l
      go ih (inl s) = record { vector = unit n; place = n; inside = omega arith; nonzero = λ e. zero≢one (sym e ∙ unit_at n); solves = s }
      go ih (inr p) = step n l p (ih _ (rw (length_map (reduce (unit n) p.equation) p.rest) (omega (arith, p.shorter))))
