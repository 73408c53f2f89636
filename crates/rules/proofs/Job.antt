-- The stages of a job: cases on them, and that no two are the same.
use Rattle.std.proofs.Common.{◌≡◌, ℕ, refl, arith}
use Rattle.rules.specs.declared.refusal.Refusal.{Refusal}
use Rattle.rules.specs.Job.{Stage, gathering, settled, void}

-- what holds in each stage, by the value chosen there
pub by_stage : {A : Type 0} (P : A → Type 0) (g : Stage) (v : Refusal → A) (a b : A) → ((r : Refusal) → g ≡ void r → P (v r)) → (g ≡ settled → P a) → (g ≡ gathering → P b) →
    P (elim g [ void r ↦ v r | settled ↦ a | gathering ↦ b ])
by_stage P (void r) v a b p q t = p r refl
by_stage P settled v a b p q t = q refl
by_stage P gathering v a b p q t = t refl

pub gathering_settled : (g : Stage) → g ≡ gathering → ¬ (g ≡ settled)
gathering_settled g e f = let z : ◌≡◌ {A = ℕ} 0 1 = cc in omega arith

pub gathering_void : (g : Stage) (r : Refusal) → g ≡ gathering → ¬ (g ≡ void r)
gathering_void g r e f = let z : ◌≡◌ {A = ℕ} 0 1 = cc in omega arith

pub settled_void : (g : Stage) (r : Refusal) → g ≡ settled → ¬ (g ≡ void r)
settled_void g r e f = let z : ◌≡◌ {A = ℕ} 0 1 = cc in omega arith
