-- What the public calls on rows and tables answer and leave, refused calls included. The arguments that hold codes are numbered from 1 in the order of the call.
use Rattle.std.specs.Prelude.{◌≡◌, ℕ, ◌<◌, ◌≤◌, true, ◌⊎◌, List, [], ◌∷◌, length, Ok, Err, Result, ◌≢◌}
use Rattle.coefficients.specs.Arithmetic.{Arithmetic, Laws}
use Rattle.coefficients.specs.declared.kind.ReciprocalFault.TheVariants.{NoReciprocal}
use Rattle.polynomials.specs.declared.faults.RowFault.{RowFault}
use Rattle.polynomials.specs.declared.faults.RowFault.TheVariants.{Length, Foreign, Reciprocal}
use Rattle.polynomials.specs.Rows.{Inside, ForeignIn, Sized}
use Rattle.polynomials.specs.Relations.{Value, Image, Quotient, MonicGcd}
use Rattle.polynomials.specs.Steps.{NoInverse, Stuck}

-- `evaluate`: the row l at x
abbrev pub Evaluation : Arithmetic → (l : List ℕ) (x : ℕ) → Result ℕ RowFault → Type 0
Evaluation K l x (Ok v) = Inside K l × (K.element x ≡ true) × (K.element v ≡ true) × ((laws : Laws K) → Value laws l x v)
Evaluation K l x (Err (Foreign row place code)) = ForeignIn K (l ∷ (x ∷ []) ∷ []) 1 row place code
Evaluation K l x (Err (Length row n)) = ⊥
Evaluation K l x (Err (Reciprocal e)) = ⊥

-- `image`: the table t at y = α, written over the row `held`, which becomes l
abbrev pub Imaging : Arithmetic → (t : List ℕ) (α : ℕ) (held l : List ℕ) → Result (Unit {0}) RowFault → Type 0
Imaging K t α held l (Ok u) = (length t ≡ 256) × (length held ≡ 16) × Inside K t × (K.element α ≡ true) × Inside K l × ((laws : Laws K) → Image laws t α l)
Imaging K t α held l (Err (Length row n)) = (l ≡ held) × (((row ≡ 1) × (n ≡ length t) × (length t ≢ 256)) ⊎ ((row ≡ 3) × (n ≡ length held) × (length t ≡ 256) × (length held ≢ 16)))
Imaging K t α held l (Err (Foreign row place code)) = (l ≡ held) × (length t ≡ 256) × (length held ≡ 16) × ForeignIn K (t ∷ (α ∷ []) ∷ []) 1 row place code
Imaging K t α held l (Err (Reciprocal e)) = ⊥

-- `divide`: f by g, with r left of f, and q over the row `held`
abbrev pub Dividing : Arithmetic → (f g held r q : List ℕ) → Result (Unit {0}) RowFault → Type 0
Dividing K f g held r q (Ok u) = (length f ≤ length held) × Inside K f × Inside K g × Inside K q × Inside K r × ((laws : Laws K) → Quotient laws f g q r)
Dividing K f g held r q (Err (Length row n)) = (r ≡ f) × (q ≡ held) × (row ≡ 3) × (n ≡ length held) × (length held < length f)
Dividing K f g held r q (Err (Foreign row place code)) = (r ≡ f) × (q ≡ held) × (length f ≤ length held) × ForeignIn K (f ∷ g ∷ []) 1 row place code
Dividing K f g held r q (Err (Reciprocal e)) = (r ≡ f) × (q ≡ held) × (length f ≤ length held) × Inside K f × Inside K g × ((c : ℕ) × (e ≡ NoReciprocal c) × NoInverse K g c)

-- `gcd`: of a and b, with d left of a and zeros of b; the answer is the size of d. Only a kind that is no field wants a reciprocal
abbrev pub Sharing : Arithmetic → (a b d e : List ℕ) → Result ℕ RowFault → Type 0
Sharing K a b d e (Ok n) = (length a ≡ length b) × Inside K a × Inside K b × Inside K d × Inside K e × Sized K d n × ((laws : Laws K) → MonicGcd laws a b d) × Sized K e 0
Sharing K a b d e (Err (Length row n)) = (d ≡ a) × (e ≡ b) × (row ≡ 2) × (n ≡ length b) × (length a ≢ length b)
Sharing K a b d e (Err (Foreign row place code)) = (d ≡ a) × (e ≡ b) × (length a ≡ length b) × ForeignIn K (a ∷ b ∷ []) 1 row place code
Sharing K a b d e (Err (Reciprocal f)) = (length a ≡ length b) × Inside K a × Inside K b × Inside K d × Inside K e × ((c : ℕ) × (f ≡ NoReciprocal c) × Stuck K c)
