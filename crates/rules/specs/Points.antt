-- How many different points of a list have a property.
use Rattle.std.specs.Prelude.{◌≡◌, ℕ, ◌≤◌, ◌⊎◌, ◌↔◌, List, [], ◌∷◌, length}
use Rattle.algebra.specs.Lists.{All, Distinct}

abbrev pub Among : ℕ → List ℕ → Type 0
Among x [] = ⊥
Among x (y ∷ ys) = (x ≡ y) ⊎ Among x ys

-- at most so many different points have the property
abbrev pub AtMost : ℕ → (ℕ → Type 0) → Type 0
AtMost n Has = (xs : List ℕ) → Distinct xs → All Has xs → length xs ≤ n

-- just n different points of xs have the property: some list without repetition holds these and no others, and its length is n
pub record Number (Has : ℕ → Type 0) (xs : List ℕ) (n : ℕ) : Type 0 where
  pub list : List ℕ
  pub distinct : Distinct list
  pub exact : (x : ℕ) → Among x list ↔ (Among x xs × Has x)
  pub size : length list ≡ n
