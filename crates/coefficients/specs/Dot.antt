-- Sums of products.
use Rattle.std.specs.Prelude.{ℕ, List, [], ◌∷◌}
use Rattle.coefficients.specs.Arithmetic.{Arithmetic}

-- the sum of the products at each place, over the shorter length; a foreign code counts as zero
unfoldable pub dot_of : Arithmetic → List ℕ → List ℕ → ℕ
dot_of K [] ys = K.zero
dot_of K (x ∷ xs) [] = K.zero
dot_of K (x ∷ xs) (y ∷ ys) = K.sum (K.product x y) (dot_of K xs ys)
