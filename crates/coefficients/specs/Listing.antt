-- What it means to list the elements of a kind.
use Rattle.std.specs.Prelude.{◌≡◌, ℕ, ◌<◌, Bool, true, cond, Some, None, Option}

-- Places 0 to count - 1 and elements: `nth` and `place` undo each other.
pub record Listing (element : ℕ → Bool) (count : ℕ) (nth place : ℕ → ℕ) : Type 0 where
  pub nth_in : (n : ℕ) → n < count → element (nth n) ≡ true
  pub place_below : (c : ℕ) → element c ≡ true → place c < count
  pub place_nth : (n : ℕ) → n < count → place (nth n) ≡ n
  pub nth_place : (c : ℕ) → element c ≡ true → nth (place c) ≡ c

-- n where the test passes, else nothing
abbrev pub when : Bool → ℕ → Option ℕ
when test n = cond test (Some n) None
