-- The examples, by computing; and a pair by its images is lawful.
use Rattle.std.proofs.Common.{◌≡◌, ℕ, ◌<◌, ◌≤◌, Bool, true, false, cond, eqb, ◌⊎◌, List, [], ◌∷◌, length, Err, refl, inl, inr, arith}
use Rattle.std.proofs.lemmas.Bool.{cond_both, cond-true, cond-false, cases_Bool, eq-eqb, ne_eqb}
use Rattle.algebra.specs.Lists.{All}
use Rattle.rules.specs.declared.refusal.Refusal.{Refusal}
use Rattle.rules.specs.Job.{zero_lead, image, passed, failed, Pair, refused}
use Rattle.rules.specs.Run.{outcome, run}
use Rattle.rules.specs.Law.{ImageOf, Lawful}
use Rattle.rules.specs.Examples.{passes_at, by_images, Examples}

degree_is : (b : Bool) (m k : ℕ) → cond b zero_lead (image m) ≡ image k → m ≡ k
degree_is true m k e = cc
degree_is false m k e = cc

module _ (vanishes : ℕ → Bool) (degree : ℕ → ℕ) (d closing ceiling : ℕ) where
  abbrev pair : Pair
  pair = by_images vanishes degree d closing ceiling

  finds : ((α : ℕ) → d ≤ degree α) → (α : ℕ) → ¬ (pair.at_point α ≡ zero_lead) → (k : ℕ) × (d ≤ k) × (pair.at_point α ≡ image k)
  finds least α other = go (cases_Bool (vanishes α))
    where
      go : (vanishes α ≡ true) ⊎ (vanishes α ≡ false) → (k : ℕ) × (d ≤ k) × (pair.at_point α ≡ image k)
      go (inl v) = absurd (other (cond-true (vanishes α) _ _ v))
      go (inr v) = (degree α, least α, cond-false (vanishes α) _ _ v)

  passes : (points : List ℕ) → 0 < length points → All (ImageOf pair d) points → passes_at degree d points ≡ passed
  passes [] some all = absurd (omega arith)
  passes (α ∷ points) some all = cond-true (eqb (degree α) d) passed failed (eq-eqb (degree α) d (degree_is (vanishes α) (degree α) d all.0.found))

  fails : (points : List ℕ) (k : ℕ) → 0 < length points → All (ImageOf pair k) points → ¬ (k ≡ d) → passes_at degree d points ≡ failed
  fails [] k some all other = absurd (omega arith)
  fails (α ∷ points) k some all other =
      let same = degree_is (vanishes α) (degree α) k all.0.found in
      cond-false (eqb (degree α) d) passed failed (ne_eqb (degree α) d (λ e. omega arith))

  by_images_lawful : ((α : ℕ) → d ≤ degree α) → d < ceiling → 0 < closing → Lawful pair d
  by_images_lawful least below some = record {
    finds = λ α e. finds least α;
    below_ceiling = below;
    closing_some = some;
    passes = λ points size distinct. passes points (omega arith);
    fails = λ points k size distinct. fails points k (omega arith);
  }

void_run : (pair : Pair) (r : Refusal) (n : ℕ) (waiting : List ℕ) → run pair (refused r) n waiting ≡ outcome (refused r) waiting 0 (Err r)
void_run pair r n [] = refl
void_run pair r n (α ∷ waiting) = refl

pub examples : Examples
examples = record {
  quadratic_lawful = by_images_lawful _ _ 2 4 4 (λ α. cond_both (eqb α 3) 3 2 (λ k. 2 ≤ k) (λ t. omega arith) (λ t. omega arith)) (omega arith) (omega arith);
  coprime_lawful = by_images_lawful (λ α. false) _ 0 2 3 (λ α. omega arith) (omega arith) (omega arith);
  counting_source = (refl, refl);
  single_offers = (refl, refl);
  in_order = refl;
  overturning = (refl, refl);
  spent_draws = (refl, refl);
  void_offer = λ pair r α. refl;
  void_run = void_run;
  blocked_point = (refl, refl);
  blocked_in_test = (refl, refl);
  full_offer = refl;
  full_run = refl;
  full_settled_offer = refl;
  full_settled_run = refl;
  filling_run = refl;
}
