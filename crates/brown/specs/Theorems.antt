-- The theorems on greatest common divisors by images at points: preparing, interpolation, images, the test, and how few points are not lucky.
use Rattle.std.specs.Prelude.{◌≡◌, ℕ, ◌+◌, ◌<◌, ◌≤◌, ◌↔◌, List, length}
use Rattle.algebra.specs.Divisors.{Greatest}
use Rattle.algebra.specs.Polynomial.{Poly, poly, size, at}
use Rattle.algebra.specs.Change.{poly₂}
use Rattle.algebra.specs.Field.{Field}
use Rattle.algebra.specs.Lead.{Monic}
use Rattle.algebra.specs.Lists.{All, Distinct}
use Rattle.bivariate.specs.Degrees.{K[y], K[y][x], lift, deg, deg_x, lead_x, Within}
use Rattle.bivariate.specs.TwoUnknowns.{Content, Reduced}
use Rattle.brown.specs.Prepared.{at_y, Prepared, closing_number, ceiling, need, unlucky_bound, Lucky}
use Rattle.brown.specs.Joined.{Pairwise, Image, Sample, Joined, Passes}

module _ {E : Type 0} (F : Field E) where
  open F use {ring as K, discrete as eq}
  open poly K eq use {zero as 𝟘, mul as ◌⊙◌}
  open poly₂ K eq use {zero as 𝟎, one as 𝟏, mul as ◌⊠◌}

  infixl 70 ◌⊙◌
  infixl 70 ◌⊠◌
  -- p and q prepare the same
  pub record Same {A B : K[y][x] F} (p q : Prepared F A B) : Type 0 where
    pub content_A : p.content_A ≡ q.content_A
    pub A' : p.A' ≡ q.A'
    pub content_B : p.content_B ≡ q.content_B
    pub B' : p.B' ≡ q.B'
    pub γ : p.γ ≡ q.γ
    pub G' : p.G' ≡ q.G'
    pub Ā' : p.Ā' ≡ q.Ā'
    pub B̄' : p.B̄' ≡ q.B̄'

  -- any two polynomials but zero are prepared in exactly one way
  pub record Preparation : Type 0 where
    pub prepared : (A B : K[y][x] F) → ¬ (A ≡ 𝟎) → ¬ (B ≡ 𝟎) → Prepared F A B
    pub unique : {A B : K[y][x] F} (p q : Prepared F A B) → Same p q
    -- G' is one if it is free of x
    pub free_of_x : {A B : K[y][x] F} (p : Prepared F A B) → deg_x F p.G' ≡ 0 → p.G' ≡ 𝟏
    -- G' times the greatest common divisor of the contents is that of A and B
    pub gcd : {A B : K[y][x] F} (p : Prepared F A B) {c : K[y] F} → Monic K c → Greatest (poly K eq) p.content_A p.content_B c → (Ā : K[y][x] F) × (B̄ : K[y][x] F) × Reduced F A B (lift F c ⊠ p.G') Ā B̄

  -- as many values as different points are the values of exactly one polynomial of that size at the most
  pub record Interpolation : Type 0 where
    pub polynomial : (αs vs : List E) → Distinct αs → length αs ≡ length vs → (q : Poly K) × (size K q ≤ length αs) × Pairwise (λ α v. at K eq α q ≡ v) αs vs
    pub unique : (αs : List E) (q r : Poly K) → Distinct αs → size K q ≤ length αs → size K r ≤ length αs → All (λ α. at K eq α q ≡ at K eq α r) αs → q ≡ r
    -- in x and y, with values that are polynomials in x
    pub polynomial₂ : (αs : List E) (vs : List (Poly K)) → Distinct αs → length αs ≡ length vs → (A : K[y][x] F) × Within F (length αs) A × Pairwise (λ α v. at_y F α A ≡ v) αs vs
    pub unique₂ : (αs : List E) (A B : K[y][x] F) → Distinct αs → Within F (length αs) A → Within F (length αs) B → All (λ α. at_y F α A ≡ at_y F α B) αs → A ≡ B

  -- the images at a point, and their greatest common divisor
  pub record Images : Type 0 where
    pub A_nonzero : {A B : K[y][x] F} (p : Prepared F A B) (α : E) → ¬ (at_y F α p.A' ≡ 𝟘)
    pub B_nonzero : {A B : K[y][x] F} (p : Prepared F A B) (α : E) → ¬ (at_y F α p.B' ≡ 𝟘)
    pub image : {A B : K[y][x] F} (p : Prepared F A B) (α : E) → (g : Poly K) × Image F p α g
    pub unique : {A B : K[y][x] F} (p : Prepared F A B) (α : E) (g h : Poly K) → Image F p α g → Image F p α h → g ≡ h
    -- its degree is below the ceiling, where γ is not zero at least that of G', and the same exactly at the lucky points
    pub below_ceiling : {A B : K[y][x] F} (p : Prepared F A B) (α : E) (g : Poly K) → Image F p α g → deg F g < ceiling F p
    pub least : {A B : K[y][x] F} (p : Prepared F A B) (α : E) → ¬ (at K eq α p.γ ≡ K.zero) → (g : Poly K) → Image F p α g → deg_x F p.G' ≤ deg F g
    pub lucky : {A B : K[y][x] F} (p : Prepared F A B) (α : E) → ¬ (at K eq α p.γ ≡ K.zero) → (g : Poly K) → Image F p α g → (deg F g ≡ deg_x F p.G') ↔ Lucky F p α
    pub G_below_ceiling : {A B : K[y][x] F} (p : Prepared F A B) → deg_x F p.G' < ceiling F p

  -- what is joined at lucky points: without their contents G*, A* and B* are G', Ā' and B̄'
  pub record Answer {A B : K[y][x] F} (p : Prepared F A B) (G* A* B* : K[y][x] F) : Type 0 where
    pub Δ : K[y] F
    pub leads : p.γ ≡ Δ ⊙ lead_x F p.G'
    pub of_G : Content F G* Δ p.G'
    pub of_A : Content F A* (lead_x F p.G') p.Ā'
    pub of_B : Content F B* (lead_x F p.G') p.B̄'

  -- the images at a sample of points are joined in exactly one way, and pass the test exactly if the points are lucky
  pub record Test : Type 0 where
    pub joined : {A B : K[y][x] F} (p : Prepared F A B) {k : ℕ} {αs : List E} → Sample F p k αs → (G* : K[y][x] F) × (A* : K[y][x] F) × (B* : K[y][x] F) × Joined F p αs G* A* B*
    pub unique : {A B : K[y][x] F} (p : Prepared F A B) {k : ℕ} {αs : List E} → Sample F p k αs → {G* A* B* G° A° B° : K[y][x] F} → Joined F p αs G* A* B* → Joined F p αs G° A° B° → (G* ≡ G°) × (A* ≡ A°) × (B* ≡ B°)
    pub passes : {A B : K[y][x] F} (p : Prepared F A B) {k : ℕ} {αs : List E} → Sample F p k αs → {G* A* B* : K[y][x] F} → Joined F p αs G* A* B* → Passes F p G* A* B* ↔ (k ≡ deg_x F p.G')
    pub answer : {A B : K[y][x] F} (p : Prepared F A B) {αs : List E} → Sample F p (deg_x F p.G') αs → {G* A* B* : K[y][x] F} → Joined F p αs G* A* B* → Answer p G* A* B*

  -- all powers of x and of y are below 16
  pub record Table (A : K[y][x] F) : Type 0 where
    pub in_x : size (poly K eq) A ≤ 16
    pub in_y : Within F 16 A

  -- few elements are not lucky
  pub record Bound : Type 0 where
    pub unlucky : {A B : K[y][x] F} (p : Prepared F A B) (αs : List E) → Distinct αs → All (λ α. ¬ Lucky F p α) αs → length αs ≤ unlucky_bound F p
    pub closing : {A B : K[y][x] F} (p : Prepared F A B) → Table A → Table B → closing_number F p ≤ 31
    pub enough : {A B : K[y][x] F} (p : Prepared F A B) → Table A → Table B → unlucky_bound F p + need F p ≤ 466
    -- the greatest common divisor and the cofactors of tables are tables
    pub tables : {A B G Ā B̄ : K[y][x] F} → ¬ (A ≡ 𝟎) → ¬ (B ≡ 𝟎) → Reduced F A B G Ā B̄ → Table A → Table B → Table G × Table Ā × Table B̄
