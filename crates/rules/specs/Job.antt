-- What a job knows of its two polynomials, and what it is at a moment.
use Rattle.std.specs.Prelude.{ℕ, Bool, List, [], length}
use Rattle.rules.specs.declared.counts.Counts.{Counts}
use Rattle.rules.specs.declared.refusal.Refusal.{Refusal}

-- What is found at a point: γ vanishes there, or the image gcd has some degree, or an element without a reciprocal stood in the way.
pub data Finding : Type 0 where
  zero_lead : Finding
  image : ℕ → Finding
  blocked : ℕ → Finding

-- What the test of joined images finds.
pub data Tested : Type 0 where
  passed failed : Tested
  blocked_test : ℕ → Tested

-- The two polynomials by what a job asks of them. Over a field nothing is ever blocked.
pub record Pair : Type 0 where
  pub element : ℕ → Bool  -- whether a code is an element
  pub at_point : ℕ → Finding  -- what is found at an element
  pub test : List ℕ → Tested  -- what the test of the images at these points finds
  pub closing : ℕ  -- the closing number
  pub first_ceiling : ℕ  -- the ceiling of the job when it is opened

-- no job takes more offers than this
abbrev pub limit : ℕ
limit = 1048575

-- the counts but for held, which is the number of held points
pub record Tally : Type 0 where
  pub offered : ℕ
  pub foreign : ℕ
  pub repeated : ℕ
  pub vanishing : ℕ
  pub high : ℕ
  pub late : ℕ
  pub dropped : ℕ

-- A job gathers points, is settled, or is void and keeps the refusal that made it so.
pub data Stage : Type 0 where
  gathering settled : Stage
  void : Refusal → Stage

pub record State : Type 0 where
  pub stage : Stage
  pub ceiling : ℕ  -- no image of this degree or a higher one is held
  pub level : ℕ  -- the degree of the held points, where any is held
  pub held : List ℕ  -- in order of holding
  pub tally : Tally

abbrev pub counts : State → Counts
counts s = record {
  offered = s.tally.offered;
  foreign = s.tally.foreign;
  repeated = s.tally.repeated;
  vanishing = s.tally.vanishing;
  high = s.tally.high;
  late = s.tally.late;
  dropped = s.tally.dropped;
  held = length s.held;
}

abbrev pub started : Stage → ℕ → State
started stage ceiling = record {
  stage = stage;
  ceiling = ceiling;
  level = 0;
  held = [];
  tally = record { offered = 0; foreign = 0; repeated = 0; vanishing = 0; high = 0; late = 0; dropped = 0 };
}

-- an opened job, and one whose opening was refused
abbrev pub opened : Pair → State
opened pair = started gathering pair.first_ceiling

abbrev pub refused : Refusal → State
refused r = started (void r) 0
