-- The law of a job for two tables over a field, in terms of the polynomials that they mean.
use Rattle.std.specs.Prelude.{◌≡◌, ℕ, ◌+◌, ◌≤◌, List, length, None}
use Rattle.coefficients.specs.Arithmetic.{Arithmetic, Laws, IsField}
use Rattle.algebra.specs.Field.{Field}
use Rattle.bivariate.specs.TwoUnknowns.{Reduced}
use Rattle.brown.specs.Prepared.{Prepared, need, unlucky_bound}
use Rattle.rules.specs.Job.{settled, State}
use Rattle.rules.specs.Run.{Call, run, play, points_offered}
use Rattle.rules.specs.Points.{AtMost}
use Rattle.rules.specs.Law.{RunLaw}
use Rattle.method.specs.Method.{UnluckyCode, JobHolds}
use Rattle.polynomials.specs.Rows.{Inside}
use Rattle.polynomials.specs.Elements.{Element, table}
use Rattle.values.specs.Meaning.{scalars}
use Rattle.rulebook.specs.Pairs.{codes_of, pair_of}
use Rattle.rulebook.specs.Opening.{opening, open_rule}
use Rattle.rulebook.specs.Collecting.{Tables, collected, need_found, bound_found}

-- a table of 256 elements
pub record Whole (K : Arithmetic) (t : List ℕ) : Type 0 where
  pub long : length t ≡ 256
  pub inside : Inside K t

module _ {K : Arithmetic} (laws : Laws K) (only : IsField K) (a b : List ℕ) where
  abbrev F : Field (Element K)
  F = scalars laws only

  -- three tables of 256 elements, that mean the monic greatest common divisor of the polynomials of a and b, and its cofactors
  pub record Answers (t : Tables) : Type 0 where
    pub divisor : Whole K t.divisor
    pub cofactor_A : Whole K t.cofactor_A
    pub cofactor_B : Whole K t.cofactor_B
    pub reduced : Reduced F (table laws a) (table laws b) (table laws t.divisor) (table laws t.cofactor_A) (table laws t.cofactor_B)

  -- What holds of a job for a and b to which these points were offered.
  pub record TableJob (p : Prepared F (table laws a) (table laws b)) (s : State) (points : List ℕ) : Type 0 where
    -- when it is settled, what it counts, and what it holds
    pub holds : JobHolds F p (codes_of K) s points
    -- how far a run draws, and why it stops
    pub runs : (n : ℕ) (waiting : List ℕ) → RunLaw (pair_of K a b) s n waiting (run (pair_of K a b) s n waiting)
    -- once it is settled, what it needed and how many elements at the most are not lucky
    pub numbers : s.stage ≡ settled → (need F p ≡ need_found K a b s) × (unlucky_bound F p ≡ bound_found K a b s)
    -- what is collected from it once it is settled is the answer, and nothing else is
    pub answers : s.stage ≡ settled → Answers (collected K a b s)
    pub only_answers : s.stage ≡ settled → (t : Tables) → Answers t → t ≡ collected K a b s

  -- What holds for a and b.
  pub record TableLaw : Type 0 where
    pub p : Prepared F (table laws a) (table laws b)
    -- few different elements are not lucky, and after few a job is settled
    pub few_unlucky : AtMost (unlucky_bound F p) (UnluckyCode F p (codes_of K))
    pub enough : unlucky_bound F p + need F p ≤ 466
    -- a job that is opened for a and b, after any list of calls
    pub job : (calls : List Call) → TableJob p (play (pair_of K a b) (open_rule K a b) calls).0 (points_offered (pair_of K a b) calls)

-- Over a field the law holds for all tables whose opening is not refused.
abbrev pub LawOver : Arithmetic → (a b : List ℕ) → Type 0
LawOver K a b = (laws : Laws K) (only : IsField K) → opening K a b ≡ None → TableLaw laws only a b
