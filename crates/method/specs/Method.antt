-- What holds of a job for two polynomials A and B in x and y over a field: when it is settled, what it counts, how many points it can need, how far its runs draw, and what is collected from it.
use Rattle.std.specs.Prelude.{◌≡◌, ℕ, ◌+◌, ◌≤◌, min, true, ◌⊎◌, ◌↔◌, List, map, length}
use Rattle.algebra.specs.Divisors.{Greatest}
use Rattle.algebra.specs.Polynomial.{poly}
use Rattle.algebra.specs.Change.{poly₂}
use Rattle.algebra.specs.Field.{Field}
use Rattle.algebra.specs.Lead.{Monic}
use Rattle.algebra.specs.Lists.{All, Distinct}
use Rattle.bivariate.specs.Degrees.{K[y], K[y][x], lift, deg_x}
use Rattle.bivariate.specs.TwoUnknowns.{Content, Reduced}
use Rattle.brown.specs.Prepared.{Prepared, need, unlucky_bound, Lucky}
use Rattle.brown.specs.Joined.{Joined}
use Rattle.rules.specs.Job.{Pair, limit, gathering, settled, State, counts, opened}
use Rattle.rules.specs.Run.{Call, run, play, points_offered}
use Rattle.rules.specs.Points.{Among, AtMost, Number}
use Rattle.rules.specs.Law as Law
use Rattle.rules.specs.Law.{Lawful, Balanced, RunLaw}
use Rattle.method.specs.Right.{Codes, Right}

module _ {E : Type 0} (F : Field E) where
  open F use {ring as K, discrete as eq}
  open poly₂ K eq use {one as 𝟏, mul as ◌⊠◌}

  infixl 70 ◌⊠◌
  module _ {A B : K[y][x] F} (p : Prepared F A B) where
    -- H is found from held points of some degree: it is one if that is 0, and else what is joined from their images, without its content
    pub record Found (degree : ℕ) (held : List E) (H : K[y][x] F) : Type 0 where
      pub free_of_x : degree ≡ 0 → H ≡ 𝟏
      pub joined : ¬ (degree ≡ 0) → (G* : K[y][x] F) × (A* : K[y][x] F) × (B* : K[y][x] F) × (c : K[y] F) × Joined F p held G* A* B* × Content F G* c H

    -- G is what is found times the monic greatest common divisor of the contents, and Ā and B̄ are the quotients of A and B by it
    pub record Collected (degree : ℕ) (held : List E) (G Ā B̄ : K[y][x] F) : Type 0 where
      pub H : K[y][x] F
      pub found : Found degree held H
      pub c : K[y] F
      pub c_monic : Monic K c
      pub c_greatest : Greatest (poly K eq) p.content_A p.content_B c
      pub is : G ≡ lift F c ⊠ H
      pub left : A ≡ G ⊠ Ā
      pub right : B ≡ G ⊠ B̄

    module _ (codes : Codes E) where
      -- the code of a lucky point
      pub record LuckyCode (n : ℕ) : Type 0 where
        pub α : E
        pub is : codes.code α ≡ n
        pub lucky : Lucky F p α

      -- the code of an element that is not lucky
      abbrev pub UnluckyCode : ℕ → Type 0
      UnluckyCode n = (codes.element n ≡ true) × (¬ LuckyCode n)

      -- What a settled job holds, and what is collected from it.
      pub record Settled (s : State) : Type 0 where
        -- different lucky points, as many as are needed
        pub held : List E
        pub held_is : s.held ≡ map codes.code held
        pub distinct : Distinct held
        pub lucky : All (Lucky F p) held
        pub number : length held ≡ need F p
        -- of the degree of G', which is found from them, and nothing else is
        pub degree : s.level ≡ deg_x F p.G'
        pub found : Found s.level held p.G'
        pub only : (H : K[y][x] F) → Found s.level held H → H ≡ p.G'
        -- something can be collected, and whatever is collected is the greatest common divisor of A and B, with its cofactors
        pub collects : (G : K[y][x] F) × (Ā : K[y][x] F) × (B̄ : K[y][x] F) × Collected s.level held G Ā B̄
        pub answer : (G Ā B̄ : K[y][x] F) → Collected s.level held G Ā B̄ → Reduced F A B G Ā B̄

      -- What holds of a job to which these points were offered.
      pub record JobHolds (s : State) (points : List ℕ) : Type 0 where
        -- the job is never void
        pub stands : (s.stage ≡ gathering) ⊎ (s.stage ≡ settled)
        -- the number of different lucky points offered: there is one, and just one
        pub counted : (lucky : ℕ) × Number LuckyCode points lucky
        pub one_number : (m n : ℕ) → Number LuckyCode points m → Number LuckyCode points n → m ≡ n
        -- the job is settled exactly when at least as many different lucky points as are needed were offered
        pub settled_exactly : (lucky : ℕ) → Number LuckyCode points lucky → (s.stage ≡ settled) ↔ (need F p ≤ lucky)
        -- offered is the number of points offered, and each is counted in one class
        pub all_counted : s.tally.offered ≡ length points
        pub bounded : length points ≤ limit
        pub balanced : Balanced (counts s)
        -- once a lucky point was offered, held is the number of different ones, or need where that is less
        pub held_lucky : (lucky : ℕ) → Number LuckyCode points lucky → (n : ℕ) → Among n points → LuckyCode n → (counts s).held ≡ min lucky (need F p)
        -- once so many different elements were offered as can be not lucky, and need more, the job is settled
        pub settled_by_many : (elements : List ℕ) → Distinct elements → All (λ n. (codes.element n ≡ true) × Among n points) elements →
            unlucky_bound F p + need F p ≤ length elements → s.stage ≡ settled
        pub settled_gives : s.stage ≡ settled → Settled s

  -- The rules of a job and two polynomials.
  pub record Method : Type 0 where
    -- right answers are there, they are lawful, and what the rules call lucky and need is so of A and B
    pub answers : {A B : K[y][x] F} (p : Prepared F A B) (codes : Codes E) → (pair : Pair) × Right F p codes pair
    pub lawful : {A B : K[y][x] F} (p : Prepared F A B) (codes : Codes E) (pair : Pair) → Right F p codes pair → Lawful pair (deg_x F p.G')
    pub lucky_same : {A B : K[y][x] F} (p : Prepared F A B) (codes : Codes E) (pair : Pair) → Right F p codes pair → (α : E) → Law.Lucky pair (deg_x F p.G') (codes.code α) ↔ Lucky F p α
    pub need_same : {A B : K[y][x] F} (p : Prepared F A B) (codes : Codes E) (pair : Pair) → Right F p codes pair → Law.need pair (deg_x F p.G') ≡ need F p
    -- nothing that a job shows is left open by them
    pub determined : {A B : K[y][x] F} (p : Prepared F A B) (codes : Codes E) (one other : Pair) → Right F p codes one → Right F p codes other → (calls : List Call) →
        (play one (opened one) calls ≡ play other (opened other) calls) × (points_offered one calls ≡ points_offered other calls)
    -- few different elements are not lucky
    pub few_unlucky : {A B : K[y][x] F} (p : Prepared F A B) (codes : Codes E) → AtMost (unlucky_bound F p) (UnluckyCode p codes)
    -- a job that is opened for A and B, after any list of calls, and any run then
    pub job : {A B : K[y][x] F} (p : Prepared F A B) (codes : Codes E) (pair : Pair) → Right F p codes pair → (calls : List Call) →
        let s = (play pair (opened pair) calls).0 in
        JobHolds p codes s (points_offered pair calls) × ((n : ℕ) (waiting : List ℕ) → RunLaw pair s n waiting (run pair s n waiting))
