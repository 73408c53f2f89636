-- The lists of codes that wait in sources.
use Rattle.std.specs.Prelude.{◌≡◌, ℕ, ◌-◌, ◌<◌, Bool, true, false, cond, ◌&&◌, List, [], ◌∷◌, ◌++◌, map, length, Some, None, Option, slice_index}
use Rattle.std.specs.List.{range_with_len}
use Rattle.coefficients.specs.Arithmetic.{Arithmetic}

-- a draw takes the first code of the list; it gives nothing where the list is empty, and leaves it so
abbrev pub Drawn : (before after : List ℕ) → Option ℕ → Type 0
Drawn before after (Some x) = before ≡ x ∷ after
Drawn before after None = (before ≡ []) × (after ≡ [])

-- whether anything waits
abbrev pub some_left : List ℕ → Bool
some_left [] = false
some_left (x ∷ xs) = true

-- what waits in a counting source from the place `next` on: the elements in the places from there to the last
abbrev pub counting_from : (nth : ℕ → ℕ) (count next : ℕ) → List ℕ
counting_from nth count next = map nth (range_with_len next (count - next))

-- the n-th element stands in place n, and there are no others
pub record InPlaces (nth : ℕ → ℕ) (count : ℕ) (waiting : List ℕ) : Type 0 where
  pub all : length waiting ≡ count
  pub each : (n : ℕ) → n < count → slice_index waiting n ≡ nth n

-- a point shifted by s; as it is where one of the two is no element
abbrev pub shifted : Arithmetic → (s point : ℕ) → ℕ
shifted K s point = cond (K.element point && K.element s) (K.sum point s) point

-- what waits in a pile: a first list and then a second, both shifted by s
abbrev pub piled : Arithmetic → (s : ℕ) → (first second : List ℕ) → List ℕ
piled K s first second = map (shifted K s) (first ++ second)
