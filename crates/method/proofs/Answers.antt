-- Right answers are there: what is found at a point by its image, and what the test finds by the degree at the first point.
use Rattle.std.proofs.Common.{◌≡◌, ℕ, cond, eqb, ◌⊎◌, ◌↔◌, List, [], ◌∷◌, map, sym, refl, ap, ◌∙◌, inl, inr, arith}
use Rattle.std.proofs.lemmas.Bool.{cases_eq, cond-true, cond-false, eq-eqb, ne_eqb}
use Rattle.algebra.specs.Polynomial.{Poly, at}
use Rattle.algebra.specs.Field.{Field}
use Rattle.bivariate.specs.Degrees.{K[y][x], deg, deg_x}
use Rattle.brown.specs.Prepared.{Prepared, closing_number, ceiling}
use Rattle.brown.specs.Joined.{Image, Sample, Joined, Passes}
use Rattle.brown.proofs.Images.{images}
use Rattle.brown.proofs.Test.{test}
use Rattle.rules.specs.Job.{Finding, zero_lead, image, blocked, Tested, passed, failed, Pair}
use Rattle.method.specs.Right.{Codes, Right}
use Rattle.method.proofs.Codes.{by_code, by_code_is}

zero_image : (f : Finding) (k : ℕ) → f ≡ zero_lead → ¬ (f ≡ image k)
zero_image f k e h = let no : ◌≡◌ {A = ℕ} 0 1 = cc in omega arith

passed_failed : (t : Tested) → t ≡ passed → ¬ (t ≡ failed)
passed_failed t e h = let no : ◌≡◌ {A = ℕ} 0 1 = cc in omega arith

module _ {E : Type 0} (F : Field E) {A B : K[y][x] F} (p : Prepared F A B) (codes : Codes E) where
  open F use {ring as K, discrete as eq}
  open p use {γ, G'}
  open codes use {element, code}

  abbrev d : ℕ
  d = deg_x F G'

  by_γ : (α : E) → Dec (at K eq α γ ≡ K.zero) → Finding
  by_γ α (yes z) = zero_lead
  by_γ α (no n) = image (deg F ((images F).image p α).0)

  at_point : ℕ → Finding
  at_point = by_code codes (λ α. by_γ α (eq (at K eq α γ) K.zero)) zero_lead

  at_point_is : (α : E) → at_point (code α) ≡ by_γ α (eq (at K eq α γ) K.zero)
  unfolding at_point
  at_point_is = by_code_is codes (λ α. by_γ α (eq (at K eq α γ) K.zero)) zero_lead

  vanishes : (α : E) → (at_point (code α) ≡ zero_lead) ↔ (at K eq α γ ≡ K.zero)
  unfolding by_γ
  vanishes α = let (there, back) = go (eq (at K eq α γ) K.zero) in (λ e. there (sym (at_point_is α) ∙ e), λ z. at_point_is α ∙ back z)
    where
      go : (c : Dec (at K eq α γ ≡ K.zero)) → (by_γ α c ≡ zero_lead) ↔ (at K eq α γ ≡ K.zero)
      go (yes z) = (λ e. z, λ e. refl)
      go (no n) = (λ e. absurd (zero_image _ _ e refl), λ z. absurd (n z))

  degree : (α : E) → ¬ (at K eq α γ ≡ K.zero) → (g : Poly K) → Image F p α g → at_point (code α) ≡ image (deg F g)
  unfolding by_γ
  degree α ok g t = at_point_is α ∙ go (eq (at K eq α γ) K.zero)
    where
      go : (c : Dec (at K eq α γ ≡ K.zero)) → by_γ α c ≡ image (deg F g)
      go (yes z) = absurd (ok z)
      go (no n) = let (h, u) = (images F).image p α in ap (λ q. image (deg F q)) ((images F).unique p α h g u t)

  by_finding : Finding → Tested
  by_finding zero_lead = failed
  by_finding (image k) = cond (eqb k d) passed failed
  by_finding (blocked c) = failed

  tested : List ℕ → Tested
  tested [] = failed
  tested (n ∷ ns) = by_finding (at_point n)

  tested_is : {k : ℕ} (αs : List E) → Sample F p k αs → tested (map code αs) ≡ cond (eqb k d) passed failed
  unfolding tested by_finding
  tested_is [] s = let e = s.number in absurd (omega arith)
  tested_is {k} (α ∷ αs) s = let f = s.fits.0 in ap by_finding (degree α f.stands f.g f.image ∙ ap image f.degree)

  module _ {k : ℕ} {αs : List E} (s : Sample F p k αs) {G* A* B* : K[y][x] F} (j : Joined F p αs G* A* B*) where
    tested_by : (Passes F p G* A* B* × (tested (map code αs) ≡ passed)) ⊎ ((¬ Passes F p G* A* B*) × (tested (map code αs) ≡ failed))
    tested_by = go (cases_eq k d)
      where
        go : (k ≡ d) ⊎ (¬ (k ≡ d)) → (Passes F p G* A* B* × (tested (map code αs) ≡ passed)) ⊎ ((¬ Passes F p G* A* B*) × (tested (map code αs) ≡ failed))
        go (inl e) = inl (((test F).passes p s j).1 e, tested_is αs s ∙ cond-true _ passed failed (eq-eqb k d e))
        go (inr n) = inr (λ t. n (((test F).passes p s j).0 t), tested_is αs s ∙ cond-false _ passed failed (ne_eqb k d n))

    passes : (tested (map code αs) ≡ passed) ↔ Passes F p G* A* B*
    passes = elim tested_by [
      | inl y ↦ (λ e. y.0, λ t. y.1)
      | inr n ↦ (λ e. absurd (passed_failed _ e n.1), λ t. absurd (n.0 t))
    ]

    fails : (tested (map code αs) ≡ failed) ↔ (¬ Passes F p G* A* B*)
    fails = elim tested_by [
      | inl y ↦ (λ e. absurd (passed_failed _ y.1 e), λ n. absurd (n y.0))
      | inr n ↦ (λ e. n.0, λ t. n.1)
    ]

  pub answers : (pair : Pair) × Right F p codes pair
  answers = (
    record { element = element; at_point = at_point; test = tested; closing = closing_number F p; first_ceiling = ceiling F p },
    record { element = λ n. refl; vanishes = vanishes; degree = degree; passes = λ s j. passes s j; fails = λ s j. fails s j; closing = refl; first_ceiling = refl },
  )
