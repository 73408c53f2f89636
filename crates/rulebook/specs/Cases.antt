-- Worked cases, as data: what two codes add up and multiply to, what comes of a shift, what numbers belong to two polynomials, and what comes of a job.
use Rattle.std.specs.Prelude.{◌≡◌, ℕ, List, [], ◌∷◌, map, Ok, Err, Result}
use Rattle.coefficients.specs.Arithmetic.{Arithmetic, Laws, IsField}
use Rattle.coefficients.specs.Residue.{modulo}
use Rattle.coefficients.specs.Byte.{bytes}
use Rattle.algebra.specs.Lists.{All}
use Rattle.brown.specs.Prepared.{Prepared, need, unlucky_bound}
use Rattle.rules.specs.declared.counts.Counts.{Counts}
use Rattle.rules.specs.declared.answer.Answer.TheVariants as Answer
use Rattle.rules.specs.declared.refusal.Stage.TheVariants.{Opening}
use Rattle.rules.specs.declared.refusal.Refusal.{Refusal}
use Rattle.rules.specs.declared.refusal.Refusal.TheVariants.{Vanishing, High, Empty, ForeignPoint, Short, NoField}
use Rattle.rules.specs.Job as Job
use Rattle.rules.specs.Job.{Stage, gathering, settled, void, State}
use Rattle.rules.specs.Run.{Call, offering, running, Reply, to_offer, to_run, play}
use Rattle.polynomials.specs.Elements.{table}
use Rattle.values.specs.Values.{lead_gcd}
use Rattle.values.specs.Tables.{rows, table_of}
use Rattle.values.specs.Meaning.{scalars}
use Rattle.points.specs.Waiting.{counting_from, shifted}
use Rattle.rulebook.specs.Pairs.{pair_of}
use Rattle.rulebook.specs.Opening.{open_rule}
use Rattle.rulebook.specs.Collecting.{Tables, collect_rule}

-- A kind and two tables, by the rows of coefficients of 1, x, x², .., each a polynomial in y.
pub record Polynomials : Type 0 where
  pub kind : Arithmetic
  pub a : List (List ℕ)
  pub b : List (List ℕ)

-- the tables of the two
abbrev pub table_A : Polynomials → List ℕ
table_A p = table_of p.kind p.a

abbrev pub table_B : Polynomials → List ℕ
table_B p = table_of p.kind p.b

-- the three tables of these rows
abbrev pub tabled : Arithmetic → (g a b : List (List ℕ)) → Tables
tabled K g a b = record { divisor = table_of K g; cofactor_A = table_of K a; cofactor_B = table_of K b }

-- What comes of a job after some calls.
pub record Outcome : Type 0 where
  pub replies : List Reply
  pub stage : Stage
  pub counts : Counts
  -- in order of holding
  pub held : List ℕ
  -- of collecting into tables of 256 codes
  pub collected : Result Tables Refusal

pub data Case : Type 0 where
  -- the sum and the product of two codes
  sum_product : (K : Arithmetic) (a b sum product : ℕ) → Case
  -- what a shift makes of the codes that wait in a source
  shift : (K : Arithmetic) (s : ℕ) (waiting points : List ℕ) → Case
  -- γ, the closing number, need, and how many elements at the most are not lucky
  numbers : Polynomials → (γ : List ℕ) (closing need unlucky : ℕ) → Case
  -- an opened job, after these calls
  job : Polynomials → List Call → Outcome → Case

-- the job that is opened for the two tables, after some calls, and what it replied
abbrev pub played : Polynomials → List Call → State × List Reply
played p calls = play (pair_of p.kind (table_A p) (table_B p)) (open_rule p.kind (table_A p) (table_B p)) calls

-- the outcome is that of the rules
pub record ComesOf (p : Polynomials) (calls : List Call) (o : Outcome) : Type 0 where
  pub replies : (played p calls).1 ≡ o.replies
  pub stage : (played p calls).0.stage ≡ o.stage
  pub counts : Job.counts (played p calls).0 ≡ o.counts
  pub held : (played p calls).0.held ≡ o.held
  pub collected : collect_rule p.kind (table_A p) (table_B p) (played p calls).0 256 256 256 ≡ o.collected

-- the numbers are those of the polynomials, over a field
pub record BelongTo (p : Polynomials) (γ : List ℕ) (closing needed unlucky : ℕ) : Type 0 where
  pub γ_is : lead_gcd p.kind (rows p.kind (table_A p)) (rows p.kind (table_B p)) ≡ γ
  pub closing_is : (pair_of p.kind (table_A p) (table_B p)).closing ≡ closing
  pub need_is : (laws : Laws p.kind) (only : IsField p.kind) (q : Prepared (scalars laws only) (table laws (table_A p)) (table laws (table_B p))) → need (scalars laws only) q ≡ needed
  pub unlucky_is : (laws : Laws p.kind) (only : IsField p.kind) (q : Prepared (scalars laws only) (table laws (table_A p)) (table laws (table_B p))) → unlucky_bound (scalars laws only) q ≡ unlucky

-- a case holds by the definitions of the rules
abbrev pub Holds : Case → Type 0
Holds (sum_product K a b sum product) = (K.sum a b ≡ sum) × (K.product a b ≡ product)
Holds (shift K s waiting points) = map (shifted K s) waiting ≡ points
Holds (numbers p γ closing need unlucky) = BelongTo p γ closing need unlucky
Holds (job p calls o) = ComesOf p calls o

-- The pairs.

-- modulo 11, A = (y² + 3y) x³ + (y² + y + 2) x² + (y + 8) x and B = (y² + 3y) x³ + y x²
abbrev pub with_content : Polynomials
with_content = record {
  kind = modulo 11;
  a = [] ∷ (8 ∷ 1 ∷ []) ∷ (2 ∷ 1 ∷ 1 ∷ []) ∷ (0 ∷ 3 ∷ 1 ∷ []) ∷ [];
  b = [] ∷ [] ∷ (0 ∷ 1 ∷ []) ∷ (0 ∷ 3 ∷ 1 ∷ []) ∷ [];
}

-- G = (y + 3) x² + x, Ā = y x + y + 8, B̄ = y x
abbrev pub with_content_answer : Result Tables Refusal
with_content_answer = Ok (tabled (modulo 11) ([] ∷ (1 ∷ []) ∷ (3 ∷ 1 ∷ []) ∷ []) ((8 ∷ 1 ∷ []) ∷ (0 ∷ 1 ∷ []) ∷ []) ([] ∷ (0 ∷ 1 ∷ []) ∷ []))

-- modulo 11, A = x² + y x and B = x² + (2y + 4) x + 2y + 3, which share no divisor
abbrev pub coprime : Polynomials
coprime = record {
  kind = modulo 11;
  a = [] ∷ (0 ∷ 1 ∷ []) ∷ (1 ∷ []) ∷ [];
  b = (3 ∷ 2 ∷ []) ∷ (4 ∷ 2 ∷ []) ∷ (1 ∷ []) ∷ [];
}

-- modulo 2, A = x and B = x + y² + y: no element is lucky
abbrev pub without_luck : Polynomials
without_luck = record {
  kind = modulo 2;
  a = [] ∷ (1 ∷ []) ∷ [];
  b = (0 ∷ 1 ∷ 1 ∷ []) ∷ (1 ∷ []) ∷ [];
}

-- over bytes, A = x² + {57} x y and B = {83} x + {c1} y
abbrev pub of_bytes : Polynomials
of_bytes = record {
  kind = bytes;
  a = [] ∷ (0 ∷ 0x57 ∷ []) ∷ (1 ∷ []) ∷ [];
  b = (0 ∷ 0xc1 ∷ []) ∷ (0x83 ∷ []) ∷ [];
}

-- modulo 15, A = B = 5, which has no reciprocal
abbrev pub no_field : Polynomials
no_field = record {
  kind = modulo 15;
  a = (5 ∷ []) ∷ [];
  b = (5 ∷ []) ∷ [];
}

-- the codes from n up to below count
abbrev pub counted : (count n : ℕ) → List ℕ
counted count n = counting_from (λ k. k) count n

-- single offers of some points
abbrev pub offers : List ℕ → List Call
offers points = map offering points

-- The cases.

-- two bytes
abbrev pub sum_and_product_of_bytes : Case
sum_and_product_of_bytes = sum_product bytes 0x57 0x83 0xd4 0xc1

-- γ = y + 3
abbrev pub numbers_of_a_pair : Case
numbers_of_a_pair = numbers with_content (3 ∷ 1 ∷ []) 4 4 2

-- a run over all residues draws 5 points: 3 is too high, and 4 settles
abbrev pub counting_source : Case
counting_source = job with_content (running (counted 11 0) 11 ∷ []) (record {
  replies = to_run (record { drawn = 5; ending = Ok tt }) (counted 11 5) ∷ [];
  stage = settled;
  counts = record { offered = 5; foreign = 0; repeated = 0; vanishing = 0; high = 1; late = 0; dropped = 0; held = 4 };
  held = 0 ∷ 1 ∷ 2 ∷ 4 ∷ [];
  collected = with_content_answer;
})

-- the same points one by one
abbrev pub counting_by_offers : Case
counting_by_offers = job with_content (offers (0 ∷ 1 ∷ 2 ∷ 3 ∷ 4 ∷ [])) (record {
  replies = map to_offer (Ok (Answer.Held 2 0) ∷ Ok (Answer.Held 2 0) ∷ Ok (Answer.Held 2 0) ∷ Err (High 3 3) ∷ Ok (Answer.Settled 2 0) ∷ []);
  stage = settled;
  counts = record { offered = 5; foreign = 0; repeated = 0; vanishing = 0; high = 1; late = 0; dropped = 0; held = 4 };
  held = 0 ∷ 1 ∷ 2 ∷ 4 ∷ [];
  collected = with_content_answer;
})

-- a supplied list, in which a point comes twice that is let go when a lower degree is seen
abbrev pub supplied_list : Case
supplied_list = job with_content (running (3 ∷ 3 ∷ 0 ∷ 1 ∷ 2 ∷ 4 ∷ []) 6 ∷ []) (record {
  replies = to_run (record { drawn = 6; ending = Ok tt }) [] ∷ [];
  stage = settled;
  counts = record { offered = 6; foreign = 0; repeated = 1; vanishing = 0; high = 0; late = 0; dropped = 1; held = 4 };
  held = 0 ∷ 1 ∷ 2 ∷ 4 ∷ [];
  collected = with_content_answer;
})

-- two points of one degree are overturned by the test, and one of degree 0 settles
abbrev pub overturned : Case
overturned = job coprime (offers (1 ∷ 4 ∷ 8 ∷ 0 ∷ [])) (record {
  replies = map to_offer (Ok (Answer.Held 1 0) ∷ Ok (Answer.Overturned 1 2) ∷ Err (High 8 1) ∷ Ok (Answer.Settled 0 0) ∷ []);
  stage = settled;
  counts = record { offered = 4; foreign = 0; repeated = 0; vanishing = 0; high = 1; late = 0; dropped = 2; held = 1 };
  held = 0 ∷ [];
  collected = Ok (tabled (modulo 11) ((1 ∷ []) ∷ []) coprime.a coprime.b);
})

-- the elements are all held, and do not settle the job
abbrev pub too_few_elements : Case
too_few_elements =
    let c : Counts = record { offered = 2; foreign = 0; repeated = 0; vanishing = 0; high = 0; late = 0; dropped = 0; held = 2 } in
    job without_luck (running (counted 2 0) 3 ∷ []) (record {
      replies = to_run (record { drawn = 2; ending = Err (Empty c) }) [] ∷ [];
      stage = gathering;
      counts = c;
      held = 0 ∷ 1 ∷ [];
      collected = Err (Short c);
    })

-- G = x + {57} y, Ā = x, B̄ = {83}
abbrev pub settled_over_bytes : Case
settled_over_bytes = job of_bytes (running (counted 256 0) 256 ∷ []) (record {
  replies = to_run (record { drawn = 2; ending = Ok tt }) (counted 256 2) ∷ [];
  stage = settled;
  counts = record { offered = 2; foreign = 0; repeated = 0; vanishing = 0; high = 0; late = 0; dropped = 0; held = 2 };
  held = 0 ∷ 1 ∷ [];
  collected = Ok (tabled bytes ((0 ∷ 0x57 ∷ []) ∷ (1 ∷ []) ∷ []) ([] ∷ (1 ∷ []) ∷ []) ((0x83 ∷ []) ∷ []));
})

-- γ is zero at 8, and 11 is no residue
abbrev pub vanishing_and_foreign : Case
vanishing_and_foreign =
    let c : Counts = record { offered = 2; foreign = 1; repeated = 0; vanishing = 1; high = 0; late = 0; dropped = 0; held = 0 } in
    job with_content (offers (8 ∷ 11 ∷ [])) (record {
      replies = map to_offer (Err (Vanishing 8) ∷ Err (ForeignPoint 11) ∷ []);
      stage = gathering;
      counts = c;
      held = [];
      collected = Err (Short c);
    })

-- modulo 11 a shift by 3 makes 0 and 1 of 8 and 9
abbrev pub shifted_list : Case
shifted_list = shift (modulo 11) 3 (8 ∷ 9 ∷ []) (0 ∷ 1 ∷ [])

-- a refused opening makes a void job, which answers its refusal
abbrev pub refused_opening : Case
refused_opening =
    let r = NoField 5 Opening in
    job no_field (offering 0 ∷ running (0 ∷ []) 1 ∷ []) (record {
      replies = to_offer (Err r) ∷ to_run (record { drawn = 0; ending = Err r }) (0 ∷ []) ∷ [];
      stage = void r;
      counts = record { offered = 0; foreign = 0; repeated = 0; vanishing = 0; high = 0; late = 0; dropped = 0; held = 0 };
      held = [];
      collected = Err r;
    })

-- all of them
abbrev pub cases : List Case
cases =
    sum_and_product_of_bytes ∷ numbers_of_a_pair ∷ counting_source ∷ counting_by_offers ∷ supplied_list ∷ overturned ∷
    too_few_elements ∷ settled_over_bytes ∷ vanishing_and_foreign ∷ shifted_list ∷ refused_opening ∷ []

-- Every worked case holds.
abbrev pub AllHold : Type 0
AllHold = All Holds cases
