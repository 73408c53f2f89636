-- What is collected from a settled job: the greatest common divisor and the cofactors, as tables.
use Rattle.std.specs.Prelude.{ℕ, zero, suc, ◌+◌, ◌-◌, ◌*◌, cond, List, [], ◌∷◌, Some, None, Ok, Err, Option, Result, ◌==◌}
use Rattle.coefficients.specs.Arithmetic.{Arithmetic}
use Rattle.rules.specs.declared.refusal.Table.{Table}
use Rattle.rules.specs.declared.refusal.Table.TheVariants.{Divisor, CofactorA, CofactorB}
use Rattle.rules.specs.declared.refusal.Refusal.{Refusal}
use Rattle.rules.specs.declared.refusal.Refusal.TheVariants.{Length, Short}
use Rattle.rules.specs.Job.{gathering, settled, void, State, counts}
use Rattle.values.specs.Ops.{codes, lists, lead, degree}
use Rattle.values.specs.Values.{degree_x, degree_y, gcd, content, primitive, times, quotient_x}
use Rattle.values.specs.Tables.{rows, table_of}
use Rattle.rulebook.specs.Pairs.{join_divisor, pair_of}
use Rattle.rulebook.specs.Opening.{unless, first_refusal}

-- Three tables, for G, Ā and B̄.
pub record Tables : Type 0 where
  pub divisor : List ℕ
  pub cofactor_A : List ℕ
  pub cofactor_B : List ℕ

module _ (K : Arithmetic) where
  -- G' from γ, the rows of A' and B', the degree of the held points and these: one where the degree is 0, else G* without its content
  abbrev pub part_found : (γ : List ℕ) (a b : List (List ℕ)) (level : ℕ) (held : List ℕ) → List (List ℕ)
  part_found γ a b zero held = (lists (lists (codes K))).one
  part_found γ a b (suc k) held = primitive K (join_divisor K γ a b held)

  -- G: G' times the monic greatest common divisor of the contents
  abbrev pub divisor_found : (a b : List (List ℕ)) (level : ℕ) (held : List ℕ) → List (List ℕ)
  divisor_found a b level held =
      let a' = primitive K a in
      let b' = primitive K b in
      let γ = gcd K (lead (lists (codes K)) a') (lead (lists (codes K)) b') in
      times K (gcd K (content K a) (content K b)) (part_found γ a' b' level held)

  -- the tables of G and of the quotients of a and b by it
  abbrev pub tables_of : (a b g : List (List ℕ)) → Tables
  tables_of a b g = record {
    divisor = table_of K g;
    cofactor_A = table_of K (quotient_x K a g);
    cofactor_B = table_of K (quotient_x K b g);
  }

  -- what is collected from a settled job for the tables a and b
  unfoldable pub collected : (a b : List ℕ) → State → Tables
  collected a b s =
      let g = divisor_found (rows K a) (rows K b) s.level s.held in
      tables_of (rows K a) (rows K b) g

module _ (K : Arithmetic) (a b : List ℕ) (s : State) where
  -- how many lucky points the settled job s for the tables a and b needed
  abbrev pub need_found : ℕ
  need_found = cond (s.level == 0) 1 (pair_of K a b).closing

  -- how many elements at the most are not lucky, by the degrees of γ, A' and B', and of G' as the job found it
  abbrev pub bound_found : ℕ
  bound_found =
      let a' = primitive K (rows K a) in
      let b' = primitive K (rows K b) in
      let γ = gcd K (lead (lists (codes K)) a') (lead (lists (codes K)) b') in
      let h = part_found K γ a' b' s.level s.held in
      degree γ + ((degree_x a' - degree_x h) * (degree_y b' - degree_y h) + (degree_x b' - degree_x h) * (degree_y a' - degree_y h))

-- a table handed in has 256 codes
abbrev pub room_check : Table → ℕ → Option Refusal
room_check name n = unless (n == 256) (Length name n)

-- the tables, unless there is no room for them
abbrev pub with_room : Option Refusal → Tables → Result Tables Refusal
with_room (Some r) t = Err r
with_room None t = Ok t

-- What collecting answers where the three tables handed in have g, ca and cb codes: a void job its refusal, one that is not settled its counts, and the first table that has no room its length.
abbrev pub collect_rule : Arithmetic → (a b : List ℕ) → State → (g ca cb : ℕ) → Result Tables Refusal
collect_rule K a b s g ca cb =
    let room = first_refusal (room_check Divisor g ∷ room_check CofactorA ca ∷ room_check CofactorB cb ∷ []) in
    elim s.stage [ void r ↦ Err r | gathering ↦ Err (Short (counts s)) | settled ↦ with_room room (collected K a b s) ]
