-- Two right pairs of answers are alike where a job asks, so that they show the same.
use Rattle.std.proofs.Common.{◌≡◌, ℕ, ◌⊎◌, List, map, sym, ◌∙◌, inl, inr}
use Rattle.std.proofs.lemmas.Bool.{cases_eq}
use Rattle.algebra.specs.Polynomial.{at}
use Rattle.algebra.specs.Field.{Field}
use Rattle.bivariate.specs.Degrees.{K[y][x], deg_x}
use Rattle.brown.specs.Prepared.{Prepared}
use Rattle.brown.specs.Joined.{Sample}
use Rattle.brown.proofs.Images.{images}
use Rattle.rules.specs.Job.{Pair, opened}
use Rattle.rules.specs.Run.{Call, play, points_offered}
use Rattle.method.specs.Right.{Codes, Right}
use Rattle.method.proofs.Right.{point, points, sample, passes, fails, lawful}
use Rattle.method.proofs.Alike.{Alike, show_the_same}

module _ {E : Type 0} (F : Field E) {A B : K[y][x] F} (p : Prepared F A B) (codes : Codes E) (one other : Pair) (r : Right F p codes one) (t : Right F p codes other) where
  open F use {ring as K, discrete as eq}
  open p use {γ, G'}
  open codes use {code}

  at_point : (α : E) → Dec (at K eq α γ ≡ K.zero) → one.at_point (code α) ≡ other.at_point (code α)
  at_point α (yes z) = (r.vanishes α).1 z ∙ sym ((t.vanishes α).1 z)
  at_point α (no n) = let (g, i) = (images F).image p α in r.degree α n g i ∙ sym (t.degree α n g i)

  test_same : (k : ℕ) (αs : List E) → Sample F p k αs → (k ≡ deg_x F G') ⊎ (¬ (k ≡ deg_x F G')) → one.test (map code αs) ≡ other.test (map code αs)
  test_same k αs s (inl e) = passes F p codes one r k αs s e ∙ sym (passes F p codes other t k αs s e)
  test_same k αs s (inr n) = fails F p codes one r k αs s n ∙ sym (fails F p codes other t k αs s n)

  alike : Alike one other
  alike = record {
    element = λ n. r.element n ∙ sym (t.element n);
    at_point = λ n e. let (α, is) = point F p codes one r n e in rw is (at_point α (eq (at K eq α γ) K.zero));
    test = λ ns k size distinct all.
        let (αs, is) = points F p codes one r (λ n i. i.element) ns all in
        rw is (test_same k αs (sample F p codes one r k αs (rw is at size) (rw is at distinct) (rw is at all)) (cases_eq k (deg_x F G')));
    closing = r.closing ∙ sym t.closing;
    first_ceiling = r.first_ceiling ∙ sym t.first_ceiling;
  }

  pub determined : (calls : List Call) → (play one (opened one) calls ≡ play other (opened other) calls) × (points_offered one calls ≡ points_offered other calls)
  determined = show_the_same one other alike (deg_x F G') (lawful F p codes one r)
