-- The method, as it is stated.
use Rattle.std.proofs.Common.{◌≡◌, ℕ, ◌≤◌, eqb, List, map, length, sym, ◌∙◌}
use lib.ListN.{length-map}
use Rattle.std.proofs.lemmas.Bool.{ne_eqb, cond-false}
use Rattle.algebra.specs.Field.{Field}
use Rattle.algebra.specs.Lists.{All, Distinct}
use Rattle.bivariate.specs.Degrees.{K[y][x], deg_x}
use Rattle.brown.specs.Prepared.{Prepared, closing_number, need, unlucky_bound}
use Rattle.brown.specs.Joined.{Sample}
use Rattle.brown.proofs.Lists.{all_map}
use Rattle.rules.specs.Job.{Pair, settled, State, opened}
use Rattle.rules.specs.Run.{Call, run, play, points_offered}
use Rattle.rules.specs.Points.{Number}
use Rattle.rules.specs.Law as Law
use Rattle.rules.specs.Law.{ImageOf, JobLaw, RunLaw}
use Rattle.rules.proofs.Law.{law}
use Rattle.method.specs.Right.{Codes, Right}
use Rattle.method.specs.Method.{LuckyCode, Settled, JobHolds, Method}
use Rattle.method.proofs.Codes.{number_iff, all_codes, distinct_codes}
use Rattle.method.proofs.Right.{points, fits, lawful, lucky_there, lucky_back, lucky_code, need_same, few_unlucky}
use Rattle.method.proofs.Answers.{answers}
use Rattle.method.proofs.Determined.{determined}
use Rattle.method.proofs.Collect as Collect

module _ {E : Type 0} (F : Field E) {A B : K[y][x] F} (p : Prepared F A B) (codes : Codes E) (pair : Pair) (right : Right F p codes pair) where
  open codes use {code}

  abbrev d : ℕ
  d = deg_x F p.G'

  -- A job of which the law of the rules holds.
  module _ (s : State) (offered : List ℕ) (l : JobLaw pair d s offered) where
    -- It is settled, and holds the codes of these points.
    module _ (αs : List E) (is : s.held ≡ map code αs) (distinct : Distinct (map code αs)) (lucky : All (Law.Lucky pair d) (map code αs)) (size : length (map code αs) ≡ Law.need pair d) (level : s.level ≡ d) where
      number : length αs ≡ need F p
      number = sym (length-map αs code) ∙ size ∙ need_same F p codes pair right

      sample : ¬ (d ≡ 0) → Sample F p d αs
      sample n = record {
        number = number ∙ cond-false (eqb d 0) 1 (closing_number F p) (ne_eqb d 0 n);
        distinct = distinct_codes codes αs distinct;
        fits = all_map (fits F p codes pair right d) αs (all_codes codes (ImageOf pair d) αs lucky);
      }

      settled_with : Settled F p codes s
      settled_with = record {
        held = αs;
        held_is = is;
        distinct = distinct_codes codes αs distinct;
        lucky = all_map (lucky_there F p codes pair right) αs (all_codes codes (ImageOf pair d) αs lucky);
        number = number;
        degree = level;
        found = rw level (Collect.found F p αs sample);
        only = rw level (Collect.only F p αs sample);
        collects = rw level (Collect.collects F p αs sample);
        answer = rw level (Collect.answer F p αs sample);
      }

    settled_gives : s.stage ≡ settled → Settled F p codes s
    settled_gives e =
        let (distinct, lucky, size, level) = l.settled_holds e in
        let (αs, is) = points F p codes pair right (λ n i. i.element) s.held lucky in
        settled_with αs is (rw is at distinct) (rw is at lucky) (rw is at size) level

    holds : JobHolds F p codes s offered
    holds = record {
      stands = l.stands;
      counted = let (n, c) = l.counted in (n, there n c);
      one_number = λ m n b c. l.one_number m n (back m b) (back n c);
      settled_exactly = λ n c. rw same at (l.settled_exactly n (back n c));
      all_counted = l.all_counted;
      bounded = l.bounded;
      balanced = l.balanced;
      held_lucky = λ n c m a k. rw same at (l.held_lucky n (back n c) m a ((lucky_code F p codes pair right m).1 k));
      settled_by_many = λ elements distinct all enough. l.settled_by_many _ few elements distinct (all_map (λ n t. (right.element n ∙ t.0, t.1)) elements all) (rw same enough);
      settled_gives = settled_gives;
    }
      where
        same : Law.need pair d ≡ need F p
        same = need_same F p codes pair right

        there : (n : ℕ) → Number (Law.Lucky pair d) offered n → Number (LuckyCode F p codes) offered n
        there n = number_iff (lucky_code F p codes pair right) offered n

        back : (n : ℕ) → Number (LuckyCode F p codes) offered n → Number (Law.Lucky pair d) offered n
        back n = number_iff (λ m. let i = lucky_code F p codes pair right m in (i.1, i.0)) offered n

        few : (ns : List ℕ) → Distinct ns → All (Law.Unlucky pair d) ns → length ns ≤ unlucky_bound F p
        few ns distinct all = few_unlucky F p codes ns distinct (all_map (λ n u. (sym (right.element n) ∙ u.0, λ k. u.1 ((lucky_code F p codes pair right n).1 k))) ns all)

  job : (calls : List Call) →
      let s = (play pair (opened pair) calls).0 in
      JobHolds F p codes s (points_offered pair calls) × ((n : ℕ) (waiting : List ℕ) → RunLaw pair s n waiting (run pair s n waiting))
  job calls = let t = law pair d (lawful F p codes pair right) calls in (holds (play pair (opened pair) calls).0 (points_offered pair calls) t.0, t.1)

pub method : {E : Type 0} (F : Field E) → Method F
method F = record {
  answers = answers F;
  lawful = lawful F;
  lucky_same = λ p codes pair right α. (lucky_there F p codes pair right α, lucky_back F p codes pair right α);
  need_same = need_same F;
  determined = determined F;
  few_unlucky = few_unlucky F;
  job = job F;
}
