-- Lists whose elements all have a property, and lists without repetition.
use Rattle.std.specs.Prelude.{◌≡◌, List, [], ◌∷◌}

-- every element has the property P
abbrev pub All : {A : Type 0} → (A → Type 0) → List A → Type 0
All P [] = Unit {0}
All P (a ∷ l) = P a × All P l

-- no two elements are equal
abbrev pub Distinct : {A : Type 0} → List A → Type 0
Distinct [] = Unit {0}
Distinct (a ∷ l) = All (λ b. ¬ (b ≡ a)) l × Distinct l
