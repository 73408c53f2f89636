-- What comes of as many points as the closing number.
use Rattle.std.proofs.Common.{◌≡◌, ℕ, true, false, List, map, Some, None, Ok, Err, Result, refl, subst, arith}
use Rattle.coefficients.specs.Arithmetic.{Arithmetic, Laws, IsField}
use Rattle.brown.specs.Prepared.{Prepared}
use Rattle.brown.specs.Joined.{Sample}
use Rattle.brown.specs.Theorems.{Answer}
use Rattle.brown.proofs.Test.{test}
use Rattle.polynomials.specs.Elements.{read, polynomial_xy, table}
use Rattle.tables.specs.declared.faults.DivisionFault.{DivisionFault}
use Rattle.values.specs.Meaning.{scalars}
use Rattle.steps.specs.declared.prepare.Workings.{Workings}
use Rattle.steps.specs.declared.factored.Factored.{Factored}
use Rattle.steps.specs.Trial.{Joins, Trying}
use Rattle.steps.specs.Answer.{Ends, Closing}
use Rattle.steps.specs.Verdict.{Enough, Deciding}

module _ {K : Arithmetic} (w : Workings) (points ds ls rs : List ℕ) (j : Factored 512) (joins : Joins K points ds ls rs (Ok j)) where
  pub failing : Trying K w j false → Deciding K w points ds ls rs (Ok None)
  failing trying a b k enough laws only p =
      let (elements, joined) = joins a b k w enough.workings enough.gathered enough.number in
      let t = joined laws only p in
      record { sample = t.sample; G* = polynomial_xy laws 32 j.divisor; A* = polynomial_xy laws 32 j.left; B* = polynomial_xy laws 32 j.right; joined = t.joined; has = λ passes. let e = (trying a b enough.workings elements laws only p).1 passes in let z : ◌≡◌ {A = ℕ} 0 1 = cc in absurd (omega arith) }

  -- the test is passed at lucky points only
  answers : Trying K w j true → (a b : List ℕ) (k : ℕ) → Enough K a b w k points ds ls rs → (laws : Laws K) (only : IsField K) (p : Prepared (scalars laws only) (table laws a) (table laws b)) → Answer (scalars laws only) p (polynomial_xy laws 32 j.divisor) (polynomial_xy laws 32 j.left) (polynomial_xy laws 32 j.right)
  answers trying a b k enough laws only p =
      let F = scalars laws only in
      let (elements, joined) = joins a b k w enough.workings enough.gathered enough.number in
      let t = joined laws only p in
      let passes = (trying a b enough.workings elements laws only p).0 refl in
      (test F).answer p (subst (λ (n : ℕ). Sample F p n (map (read laws) points)) (((test F).passes p t.sample t.joined).0 passes) t.sample) t.joined

  pub ending : Trying K w j true → (r : Result (Factored 256) DivisionFault) → Closing K w j r → (a b : List ℕ) (k : ℕ) → Enough K a b w k points ds ls rs → Ends K a b r
  ending trying r closing a b k enough =
      let (elements, joined) = joins a b k w enough.workings enough.gathered enough.number in
      closing a b enough.A_inside enough.B_inside enough.A_long enough.B_long enough.workings elements (answers trying a b k enough)

  pub passing : Trying K w j true → (r : Factored 256) → Closing K w j (Ok r) → Deciding K w points ds ls rs (Ok (Some r))
  passing trying r closing a b k enough =
      let (elements, joined) = joins a b k w enough.workings enough.gathered enough.number in
      (ending trying (Ok r) closing a b k enough, λ laws only p. let t = joined laws only p in record { sample = t.sample; G* = polynomial_xy laws 32 j.divisor; A* = polynomial_xy laws 32 j.left; B* = polynomial_xy laws 32 j.right; joined = t.joined; has = (trying a b enough.workings elements laws only p).0 refl })

  pub blocking : Trying K w j true → (e : DivisionFault) → Closing K w j (Err e) → Deciding K w points ds ls rs (Err e)
  blocking trying e closing a b k enough = ending trying (Err e) closing a b k enough
