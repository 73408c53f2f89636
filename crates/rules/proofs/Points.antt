-- Lists of points: what is among them, and how many different ones have a property.
use Rattle.std.proofs.Common.{◌≡◌, ℕ, suc, ◌+◌, ◌≤◌, true, false, eqb, ◌⊎◌, List, [], ◌∷◌, ◌++◌, length, sym, refl, ap, ◌∙◌, subst, inl, inr, arith, length-append}
use Rattle.std.proofs.lemmas.Bool.{cases_eq, eqb-true, eqb-false, or_parts, or_cases, false≢true}
use Rattle.algebra.specs.Lists.{All, Distinct}
use Rattle.rules.specs.Offer.{member}
use Rattle.rules.specs.Points.{Among, Number}

-- every point of the list has the property
abbrev pub Each : (ℕ → Type 0) → List ℕ → Type 0
Each Has xs = (x : ℕ) → Among x xs → Has x

pub all_each : (Has : ℕ → Type 0) (xs : List ℕ) → All Has xs → Each Has xs
all_each Has [] a x m = absurd m
all_each Has (y ∷ ys) a x (inl e) = subst Has (sym e) a.0
all_each Has (y ∷ ys) a x (inr m) = all_each Has ys a.1 x m

pub each_all : (Has : ℕ → Type 0) (xs : List ℕ) → Each Has xs → All Has xs
each_all Has [] h = tt
each_all Has (y ∷ ys) h = (h y (inl refl), each_all Has ys (λ x m. h x (inr m)))

pub first_new : (x : ℕ) (xs : List ℕ) → Distinct (x ∷ xs) → ¬ Among x xs
first_new x xs d m = all_each (λ y. ¬ (y ≡ x)) xs d.0 x m refl

pub distinct_cons : (x : ℕ) (xs : List ℕ) → ¬ Among x xs → Distinct xs → Distinct (x ∷ xs)
distinct_cons x xs new d = (each_all (λ y. ¬ (y ≡ x)) xs (λ y m e. new (subst (λ z. Among z xs) e m)), d)

pub among_left : (x : ℕ) (xs ys : List ℕ) → Among x xs → Among x (xs ++ ys)
among_left x [] ys m = absurd m
among_left x (z ∷ zs) ys (inl e) = inl e
among_left x (z ∷ zs) ys (inr m) = inr (among_left x zs ys m)

-- the last point of a list, and a point of a list with one more at its end
pub among_last : (x : ℕ) (xs : List ℕ) → Among x (xs ++ x ∷ [])
among_last x [] = inl refl
among_last x (z ∷ zs) = inr (among_last x zs)

pub among_pushed : (x : ℕ) (xs : List ℕ) (y : ℕ) → Among x (xs ++ y ∷ []) → Among x xs ⊎ (x ≡ y)
among_pushed x [] y (inl e) = inr e
among_pushed x [] y (inr m) = absurd m
among_pushed x (z ∷ zs) y (inl e) = inl (inl e)
among_pushed x (z ∷ zs) y (inr m) = elim (among_pushed x zs y m) [ inl k ↦ inl (inr k) | inr e ↦ inr e ]

pub length_pushed : (xs : List ℕ) (x : ℕ) → length (xs ++ x ∷ []) ≡ length xs + 1
length_pushed xs x = length-append xs (x ∷ [])

pub distinct_push : (xs : List ℕ) (y : ℕ) → Distinct xs → ¬ Among y xs → Distinct (xs ++ y ∷ [])
distinct_push [] y d new = (tt, tt)
distinct_push (x ∷ xs) y d new =
    distinct_cons x (xs ++ y ∷ []) (λ m. elim (among_pushed x xs y m) [ inl k ↦ first_new x xs d k | inr e ↦ new (inl (sym e)) ]) (distinct_push xs y d.1 (λ m. new (inr m)))

pub among_decided : (x : ℕ) (xs : List ℕ) → Among x xs ⊎ (¬ Among x xs)
among_decided x [] = inr (λ m. m)
among_decided x (y ∷ ys) = go (cases_eq x y) (among_decided x ys)
  where
    go : (x ≡ y) ⊎ (x ≡ y → ⊥) → Among x ys ⊎ (¬ Among x ys) → Among x (y ∷ ys) ⊎ (¬ Among x (y ∷ ys))
    go (inl e) d = inl (inl e)
    go (inr e) (inl m) = inl (inr m)
    go (inr e) (inr m) = inr (elim [ inl k ↦ e k | inr k ↦ m k ])

pub member_true : (x : ℕ) (xs : List ℕ) → member x xs ≡ true → Among x xs
member_true x [] e = absurd (false≢true e)
member_true x (y ∷ ys) e = elim (or_cases (eqb x y) (member x ys) e) [ inl k ↦ inl (eqb-true x y k) | inr k ↦ inr (member_true x ys k) ]

pub member_false : (x : ℕ) (xs : List ℕ) → member x xs ≡ false → ¬ Among x xs
member_false x [] e m = m
member_false x (y ∷ ys) e (inl k) = eqb-false x y (or_parts (eqb x y) (member x ys) e).0 k
member_false x (y ∷ ys) e (inr m) = member_false x ys (or_parts (eqb x y) (member x ys) e).1 m

-- xs without its first x
less : (x : ℕ) (xs : List ℕ) → Among x xs → List ℕ
less x [] m = elim m [ ]
less x (y ∷ ys) (inl e) = ys
less x (y ∷ ys) (inr m) = y ∷ less x ys m

length_less : (x : ℕ) (xs : List ℕ) (m : Among x xs) → suc (length (less x xs m)) ≡ length xs
unfolding less
length_less x [] m = elim m [ ]
length_less x (y ∷ ys) (inl e) = refl
length_less x (y ∷ ys) (inr m) = ap suc (length_less x ys m)

among_less : (x : ℕ) (xs : List ℕ) (m : Among x xs) (z : ℕ) → Among z xs → ¬ (z ≡ x) → Among z (less x xs m)
unfolding less
among_less x [] m z k n = elim m [ ]
among_less x (y ∷ ys) (inl e) z (inl k) n = absurd (n (k ∙ sym e))
among_less x (y ∷ ys) (inl e) z (inr k) n = k
among_less x (y ∷ ys) (inr m) z (inl k) n = inl k
among_less x (y ∷ ys) (inr m) z (inr k) n = inr (among_less x ys m z k n)

-- different points that are all among some others are no more than those
pub no_more : (xs ys : List ℕ) → Distinct xs → Each (λ x. Among x ys) xs → length xs ≤ length ys
no_more [] ys d h = omega arith
no_more (x ∷ xs) ys d h =
    let m : Among x ys = h x (inl refl) in
    let fewer = no_more xs (less x ys m) d.1 (λ z k. among_less x ys m z (h z (inr k)) (all_each (λ y. ¬ (y ≡ x)) xs d.0 z k)) in
    omega (arith, length_less x ys m)

-- How many different points of a list have a property.
module _ (Has : ℕ → Type 0) where
  pub number_at_least : (xs : List ℕ) (n : ℕ) → Number Has xs n → (ys : List ℕ) → Distinct ys → Each (λ x. Among x xs × Has x) ys → length ys ≤ n
  number_at_least xs n c ys d h = rw (← c.size) (no_more ys c.list d (λ x m. (c.exact x).1 (h x m)))

  pub number_unique : (xs : List ℕ) (m n : ℕ) → Number Has xs m → Number Has xs n → m ≡ n
  number_unique xs m n a b =
      let one = number_at_least xs m a b.list b.distinct (λ x k. (b.exact x).0 k) in
      let other = number_at_least xs n b a.list a.distinct (λ x k. (a.exact x).0 k) in
      omega (arith, a.size, b.size)

  -- Where the property is decided.
  module _ (decided : (x : ℕ) → Has x ⊎ (¬ Has x)) where
    pub number_exists : (xs : List ℕ) → (n : ℕ) × Number Has xs n
    number_exists [] = (0, record { list = []; distinct = tt; exact = λ x. (λ m. absurd m, λ m. absurd m.0); size = refl })
    number_exists (x ∷ xs) = go (number_exists xs) (decided x)
      where
        with_old : (n : ℕ) (c : Number Has xs n) → ((z : ℕ) → z ≡ x → Has z → Among z c.list) → (n : ℕ) × Number Has (x ∷ xs) n
        with_old n c h = (
          n,
          record {
            list = c.list;
            distinct = c.distinct;
            size = c.size;
            exact = λ z. (λ k. (inr ((c.exact z).0 k).0, ((c.exact z).0 k).1), λ k. elim k.0 [ inl e ↦ h z e k.1 | inr w ↦ (c.exact z).1 (w, k.1) ]);
          },
        )

        with_new : (n : ℕ) (c : Number Has xs n) → Has x → ¬ Among x c.list → (n : ℕ) × Number Has (x ∷ xs) n
        with_new n c p new = (
          suc n,
          record {
            list = x ∷ c.list;
            distinct = distinct_cons x c.list new c.distinct;
            size = ap suc c.size;
            exact = λ z. (
              elim [ inl e ↦ (inl e, subst Has (sym e) p) | inr k ↦ (inr ((c.exact z).0 k).0, ((c.exact z).0 k).1) ],
              λ k. elim k.0 [ inl e ↦ inl e | inr w ↦ inr ((c.exact z).1 (w, k.1)) ],
            );
          },
        )

        choose : (n : ℕ) (c : Number Has xs n) → Has x → Among x c.list ⊎ (¬ Among x c.list) → (n : ℕ) × Number Has (x ∷ xs) n
        choose n c p (inl m) = with_old n c (λ z e q. subst (λ w. Among w c.list) (sym e) m)
        choose n c p (inr m) = with_new n c p m

        go : (n : ℕ) × Number Has xs n → Has x ⊎ (¬ Has x) → (n : ℕ) × Number Has (x ∷ xs) n
        go c (inl p) = choose c.0 c.1 p (among_decided x c.1.list)
        go c (inr p) = with_old c.0 c.1 (λ z e q. absurd (p (subst Has e q)))

  -- different points, parted by the property
  pub record Parted (xs : List ℕ) : Type 0 where
    pub those : List ℕ
    pub others : List ℕ
    pub those_distinct : Distinct those
    pub others_distinct : Distinct others
    pub those_each : Each (λ x. Among x xs × Has x) those
    pub others_each : Each (λ x. Among x xs × (¬ Has x)) others
    pub sizes : length those + length others ≡ length xs

  pub parted : ((x : ℕ) → Has x ⊎ (¬ Has x)) → (xs : List ℕ) → Distinct xs → Parted xs
  parted decided [] d = record { those = []; others = []; those_distinct = tt; others_distinct = tt; those_each = λ x m. absurd m; others_each = λ x m. absurd m; sizes = refl }
  parted decided (x ∷ xs) d = go (parted decided xs d.1) (decided x)
    where
      go : Parted xs → Has x ⊎ (¬ Has x) → Parted (x ∷ xs)
      go p (inl h) = record {
        those = x ∷ p.those;
        others = p.others;
        those_distinct = distinct_cons x p.those (λ m. first_new x xs d (p.those_each x m).0) p.those_distinct;
        others_distinct = p.others_distinct;
        those_each = λ z. elim [ inl e ↦ (inl e, subst Has (sym e) h) | inr m ↦ (inr (p.those_each z m).0, (p.those_each z m).1) ];
        others_each = λ z m. (inr (p.others_each z m).0, (p.others_each z m).1);
        sizes = omega (arith, p.sizes);
      }
      go p (inr h) = record {
        those = p.those;
        others = x ∷ p.others;
        those_distinct = p.those_distinct;
        others_distinct = distinct_cons x p.others (λ m. first_new x xs d (p.others_each x m).0) p.others_distinct;
        those_each = λ z m. (inr (p.those_each z m).0, (p.those_each z m).1);
        others_each = λ z. elim [ inl e ↦ (inl e, λ q. h (subst Has e q)) | inr m ↦ (inr (p.others_each z m).0, (p.others_each z m).1) ];
        sizes = omega (arith, p.sizes);
      }
