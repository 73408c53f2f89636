-- The law of a job for two tables over a field.
use Rattle.std.proofs.Common.{◌≡◌, ℕ, cond, eqb, List, None, sym, subst, ap₂}
use Rattle.coefficients.specs.Arithmetic.{Arithmetic, Laws, IsField}
use Rattle.algebra.specs.Field.{Field}
use Rattle.brown.specs.Prepared.{Prepared, need, unlucky_bound}
use Rattle.brown.proofs.Preparation.{preparation}
use Rattle.brown.proofs.Bound.{bound}
use Rattle.rules.specs.Job.{Pair, settled, State, opened}
use Rattle.rules.specs.Run.{run, play, points_offered}
use Rattle.rules.specs.Law.{RunLaw}
use Rattle.method.specs.Method.{JobHolds}
use Rattle.method.proofs.Method.{method}
use Rattle.polynomials.specs.Elements.{Element, table}
use Rattle.values.specs.Tables.{rows}
use Rattle.values.specs.Meaning.{scalars}
use Rattle.rulebook.specs.Pairs.{codes_of, pair_of}
use Rattle.rulebook.specs.Opening.{opening, Openable}
use Rattle.rulebook.specs.Collecting.{divisor_found, tables_of, collected, need_found, bound_found}
use Rattle.rulebook.specs.Law.{Answers, TableJob, TableLaw, LawOver}
use Rattle.rulebook.proofs.Right.{pair_right}
use Rattle.rulebook.proofs.Opening.{openable, opens_job}
use Rattle.rulebook.proofs.Collecting as Collecting

module _ {K : Arithmetic} (laws : Laws K) (only : IsField K) (a b : List ℕ) (e : opening K a b ≡ None) where
  abbrev F : Field (Element K)
  F = scalars laws only

  abbrev pair : Pair
  pair = pair_of K a b

  o : Openable laws a b
  o = openable laws a b e

  p : Prepared F (table laws a) (table laws b)
  p = (preparation F).prepared (table laws a) (table laws b) o.A_nonzero o.B_nonzero

  -- A job of which the law of the method holds.
  module _ (s : State) (points : List ℕ) (h : JobHolds F p (codes_of K) s points) where
    answers : s.stage ≡ settled → Answers laws only a b (collected K a b s)
    unfolding collected
    answers is =
        let t = h.settled_gives is in
        subst (λ held. Answers laws only a b (tables_of K (rows K a) (rows K b) (divisor_found K (rows K a) (rows K b) s.level held))) (sym t.held_is)
        (Collecting.answers laws only a b o.A_long o.B_long o.A_inside o.B_inside p t.held t.distinct t.lucky t.number s.level t.degree)

    numbers : s.stage ≡ settled → (need F p ≡ need_found K a b s) × (unlucky_bound F p ≡ bound_found K a b s)
    numbers is =
        let t = h.settled_gives is in
        let right = pair_right laws only a b o.A_long o.B_long o.A_inside o.B_inside p in (
          ap₂ (λ d n. cond (eqb d 0) 1 n) (sym t.degree) (sym right.closing),
          rw t.held_is (Collecting.bound_is laws only a b o.A_long o.B_long o.A_inside o.B_inside p t.held t.distinct t.lucky t.number s.level t.degree),
        )

    table_job : ((n : ℕ) (waiting : List ℕ) → RunLaw pair s n waiting (run pair s n waiting)) → TableJob laws only a b p s points
    table_job runs = record {
      holds = h;
      runs = runs;
      numbers = numbers;
      answers = answers;
      only_answers = λ is t x. Collecting.one_answer laws only a b o.A_long o.B_long o.A_inside o.B_inside p t (collected K a b s) x (answers is);
    }

  table_law : TableLaw laws only a b
  table_law = record {
    p = p;
    few_unlucky = (method F).few_unlucky p (codes_of K);
    enough = (bound F).enough p (Collecting.A_table laws only a b o.A_long o.B_long o.A_inside o.B_inside p) (Collecting.B_table laws only a b o.A_long o.B_long o.A_inside o.B_inside p);
    job = λ calls.
        let (holds, runs) = (method F).job p (codes_of K) pair (pair_right laws only a b o.A_long o.B_long o.A_inside o.B_inside p) calls in
        subst (λ s. TableJob laws only a b p (play pair s calls).0 (points_offered pair calls)) (sym (opens_job K a b e)) (table_job (play pair (opened pair) calls).0 (points_offered pair calls) holds runs);
  }

pub law_over : (K : Arithmetic) (a b : List ℕ) → LawOver K a b
law_over K a b laws only e = table_law laws only a b e
