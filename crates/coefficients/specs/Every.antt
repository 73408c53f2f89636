-- A test that is computed at each number below another.
use Rattle.std.specs.Prelude.{◌≡◌, ℕ, zero, suc, ◌<◌, Bool, true, ◌&&◌}
use Rattle.std.proofs.Common.{ap, ◌∙◌, ⊎_elim, arith}
use Rattle.std.proofs.lemmas.Bool.{and_parts, cases_eq}

abbrev pub every : (ℕ → Bool) → ℕ → Bool
every f zero = true
every f (suc n) = f n && every f n

pub every_at : (f : ℕ → Bool) (n k : ℕ) → every f n ≡ true → k < n → f k ≡ true
every_at f zero k t h = absurd (omega arith)
every_at f (suc n) k t h =
    let parts = and_parts (f n) (every f n) t in
    ⊎_elim (λ e. ap f e ∙ parts.0) (λ ne. every_at f n k parts.1 (omega arith)) (cases_eq k n)
