-- Right answers are lawful, and what the rules call lucky and need is so of the two polynomials.
use Rattle.std.proofs.Common.{◌≡◌, ℕ, ◌≤◌, true, cond, eqb, ◌↔◌, List, map, length, sym, refl, ap, ◌∙◌, arith}
use lib.ListN.{length-map}
use Rattle.algebra.specs.Polynomial.{at}
use Rattle.algebra.specs.Field.{Field}
use Rattle.algebra.specs.Lists.{All, Distinct}
use Rattle.bivariate.specs.Degrees.{K[y][x], deg_x}
use Rattle.brown.specs.Prepared.{Prepared, need, unlucky_bound, Lucky}
use Rattle.brown.specs.Joined.{Fits, Sample}
use Rattle.brown.proofs.Lists.{all_map}
use Rattle.brown.proofs.Images.{images}
use Rattle.brown.proofs.Test.{test}
use Rattle.brown.proofs.Bound.{bound}
use Rattle.rules.specs.Job.{image, passed, failed, Pair}
use Rattle.rules.specs.Points.{AtMost}
use Rattle.rules.specs.Law as Law
use Rattle.rules.specs.Law.{ImageOf, Lawful}
use Rattle.method.specs.Right.{Codes, Right}
use Rattle.method.specs.Method.{LuckyCode, UnluckyCode}
use Rattle.method.proofs.Codes.{decoded, all_codes, distinct_codes}

module _ {E : Type 0} (F : Field E) {A B : K[y][x] F} (p : Prepared F A B) (codes : Codes E) (pair : Pair) (right : Right F p codes pair) where
  open F use {ring as K, discrete as eq}
  open p use {γ, G'}
  open codes use {code, decode, coded, code_decode}

  abbrev d : ℕ
  d = deg_x F G'

  -- an element is the code of a point
  pub point : (n : ℕ) → pair.element n ≡ true → (α : E) × (n ≡ code α)
  point n h = let t = sym (right.element n) ∙ h in (decode n t, sym (code_decode n t))

  -- a list of elements is the list of the codes of some points
  pub points : {P : ℕ → Type 0} → ((n : ℕ) → P n → pair.element n ≡ true) → (ns : List ℕ) → All P ns → (αs : List E) × (ns ≡ map code αs)
  points f ns h = decoded codes ns (all_map (λ n x. sym (right.element n) ∙ f n x) ns h)

  stands : (k : ℕ) (α : E) → ImageOf pair k (code α) → ¬ (at K eq α γ ≡ K.zero)
  stands k α i z = let no : ◌≡◌ {A = ℕ} 0 1 = cc (i.found, (right.vanishes α).1 z) in omega arith

  pub fits : (k : ℕ) (α : E) → ImageOf pair k (code α) → Fits F p k α
  fits k α i =
      let ok = stands k α i in
      let (g, t) = (images F).image p α in
      record { stands = ok; g = g; image = t; degree = cc (i.found, right.degree α ok g t) }

  pub sample : (k : ℕ) (αs : List E) → length (map code αs) ≡ pair.closing → Distinct (map code αs) → All (ImageOf pair k) (map code αs) → Sample F p k αs
  sample k αs size distinct all = record {
    number = sym (length-map αs code) ∙ size ∙ right.closing;
    distinct = distinct_codes codes αs distinct;
    fits = all_map (fits k) αs (all_codes codes (ImageOf pair k) αs all);
  }

  -- what is found at a point where γ is not zero
  finds : (α : E) → ¬ (at K eq α γ ≡ K.zero) → (k : ℕ) × (d ≤ k) × (pair.at_point (code α) ≡ image k)
  finds α ok = let (g, t) = (images F).image p α in (_, (images F).least p α ok g t, right.degree α ok g t)

  -- what the test finds at a sample
  pub passes : (k : ℕ) (αs : List E) → Sample F p k αs → k ≡ d → pair.test (map code αs) ≡ passed
  passes k αs s e = let (G*, A*, B*, j) = (test F).joined p s in (right.passes s j).1 (((test F).passes p s j).1 e)

  pub fails : (k : ℕ) (αs : List E) → Sample F p k αs → ¬ (k ≡ d) → pair.test (map code αs) ≡ failed
  fails k αs s n = let (G*, A*, B*, j) = (test F).joined p s in (right.fails s j).1 (λ t. n (((test F).passes p s j).0 t))

  pub lawful : Lawful pair (deg_x F G')
  lawful = record {
    finds = λ n e ok. let (α, is) = point n e in rw is (finds α (λ z. ok (rw is ((right.vanishes α).1 z))));
    below_ceiling = rw right.first_ceiling ((images F).G_below_ceiling p);
    closing_some = rw right.closing (omega arith);
    passes = λ ns size distinct all. let (αs, is) = points (λ n i. i.element) ns all in rw is (passes d αs (sample d αs (rw is at size) (rw is at distinct) (rw is at all)) refl);
    fails = λ ns k size distinct all n. let (αs, is) = points (λ n i. i.element) ns all in rw is (fails k αs (sample k αs (rw is at size) (rw is at distinct) (rw is at all)) n);
  }

  -- a point is lucky by the rules exactly if it is a lucky point of A and B
  pub lucky_there : (α : E) → Law.Lucky pair d (code α) → Lucky F p α
  lucky_there α l = let f = fits d α l in ((images F).lucky p α f.stands f.g f.image).0 f.degree

  pub lucky_back : (α : E) → Lucky F p α → Law.Lucky pair d (code α)
  lucky_back α l =
      let (g, t) = (images F).image p α in
      record {
        element = right.element (code α) ∙ coded α;
        found = right.degree α l.stands g t ∙ ap image (((images F).lucky p α l.stands g t).1 l);
      }

  pub lucky_code : (n : ℕ) → Law.Lucky pair d n ↔ LuckyCode F p codes n
  lucky_code n = (
    λ l. let (α, is) = point n l.element in record { α = α; is = sym is; lucky = lucky_there α (rw is at l) },
    λ l. rw (← l.is) (lucky_back l.α l.lucky),
  )

  pub need_same : Law.need pair (deg_x F G') ≡ need F p
  need_same = ap (λ n. cond (eqb d 0) 1 n) right.closing

-- few elements are not lucky
pub few_unlucky : {E : Type 0} (F : Field E) {A B : K[y][x] F} (p : Prepared F A B) (codes : Codes E) → AtMost (unlucky_bound F p) (UnluckyCode F p codes)
few_unlucky F p codes ns distinct all =
    let (αs, is) = decoded codes ns (all_map (λ n u. u.0) ns all) in
    rw (is, length-map αs codes.code)
    ((bound F).unlucky p αs (distinct_codes codes αs (rw is at distinct))
    (all_map (λ α u l. u.1 (record { α = α; is = refl; lucky = l })) αs (all_codes codes (UnluckyCode F p codes) αs (rw is at all))))
