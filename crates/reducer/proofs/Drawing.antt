-- A run, draw by draw.
use Rattle.std.proofs.Common.{◌≡◌, ℕ, suc, ◌+◌, Bool, true, false, cond, leb, List, [], ◌∷◌, Some, None, Ok, Err, Result, sym, ap, ◌∙◌, subst, ap₂, add-one, arith, eq-eqb}
use Rattle.coefficients.specs.Arithmetic.{Arithmetic, IsField}
use Rattle.rules.specs.declared.answer.Answer.{Answer}
use Rattle.rules.specs.declared.counts.Counts.{Counts}
use Rattle.rules.specs.declared.refusal.Refusal.{Refusal}
use Rattle.rules.specs.declared.refusal.Refusal.TheVariants.{Full, Spent, Empty}
use Rattle.rules.specs.Job.{Pair, limit, Stage, gathering, settled, void, State, counts}
use Rattle.rules.specs.Offer.{offer}
use Rattle.rules.specs.Run.{stop, go, check, Outcome, outcome, either, draw_on}
use Rattle.rulebook.specs.Pairs.{pair_of}
use Rattle.points.specs.Waiting.{Drawn}
use Rattle.reducer.specs.Promises.{Offered, Draws, stops, empty, draws, Drawing}

-- the run has come from the job s₀ and the list w₀ to s and w, with so many points drawn
pub record Going (K : Arithmetic) (a b : List ℕ) (n : ℕ) (s₀ : State) (w₀ : List ℕ) (s : State) (drawn : ℕ) (w : List ℕ) : Type 0 where
  pub over_field : IsField K → draw_on (pair_of K a b) s₀ 0 n w₀ ≡ draw_on (pair_of K a b) s drawn n w
  pub over_kind : (end : Outcome) → Draws K n s drawn w end → Draws K n s₀ 0 w₀ end

-- where a run goes on, its draws are not spent
pub drawn_fewer : (s : State) (drawn n : ℕ) → check s drawn n ≡ go → ¬ (drawn ≡ n)
drawn_fewer s drawn n c e = go_on s.stage (leb limit s.tally.offered) (subst (λ (x : Bool). elim s.stage [ void r ↦ stop (Err r) | settled ↦ stop (Ok tt) | gathering ↦ cond (leb limit s.tally.offered) (stop (Err (Full (counts s)))) (cond x (stop (Err (Spent (counts s)))) go) ] ≡ go) (eq-eqb drawn n e) c)
  where
    go_on : (t : Stage) (x : Bool) → elim t [ void r ↦ stop (Err r) | settled ↦ stop (Ok tt) | gathering ↦ cond x (stop (Err (Full (counts s)))) (stop (Err (Spent (counts s)))) ] ≡ go → ⊥
    go_on gathering true q = let z : ◌≡◌ {A = ℕ} 0 1 = cc in omega arith
    go_on gathering false q = let z : ◌≡◌ {A = ℕ} 0 1 = cc in omega arith
    go_on settled x q = let z : ◌≡◌ {A = ℕ} 0 1 = cc in omega arith
    go_on (void r) x q = let z : ◌≡◌ {A = ℕ} 0 1 = cc in omega arith

draw_stop : (pair : Pair) (s : State) (drawn n : ℕ) (w : List ℕ) (e : Result (Unit {0}) Refusal) → check s drawn n ≡ stop e → draw_on pair s drawn n w ≡ outcome s w drawn e
draw_stop pair s drawn n [] e c = ap (λ x. either x (outcome s [] drawn) (outcome s [] drawn (Err (Empty (counts s))))) c
draw_stop pair s drawn n (α ∷ w) e c = ap (λ x. either x (outcome s (α ∷ w) drawn) (draw_on pair (offer pair s α).0 (suc drawn) n w)) c

-- one more draw
pub going_more : (K : Arithmetic) (a b : List ℕ) (n : ℕ) (s₀ : State) (w₀ : List ℕ) (s s' : State) (drawn α : ℕ) (r : Result Answer Refusal) (w w' : List ℕ) → check s drawn n ≡ go → Drawn w w' (Some α) → Offered K a b s α s' r → Going K a b n s₀ w₀ s drawn w → Going K a b n s₀ w₀ s' (drawn + 1) w'
going_more K a b n s₀ w₀ s s' drawn α r w w' c d o g = record {
  over_field = λ only. g.over_field only ∙ ap (draw_on (pair_of K a b) s drawn n) d ∙ ap (λ x. either x (outcome s (α ∷ w') drawn) (draw_on (pair_of K a b) (offer (pair_of K a b) s α).0 (suc drawn) n w')) c ∙ ap₂ (λ x m. draw_on (pair_of K a b) x m n w') (ap (λ (x : State × Result Answer Refusal). x.0) (o.over_field only)) (sym (add-one drawn));
  over_kind = λ end t.
      let (pair, owed, is) = o.over_kind in
      let moved : Draws K n (offer pair s α).0 (suc drawn) w' end = subst (λ (x : State). Draws K n x (suc drawn) w' end) (sym (ap (λ (x : State × Result Answer Refusal). x.0) is)) (subst (λ (m : ℕ). Draws K n s' m w' end) (add-one drawn) t) in
      g.over_kind end (subst (λ (x : List ℕ). Draws K n s drawn x end) (sym d) (draws s drawn α w' end c pair owed moved));
}

-- a cause to stop
pub going_stop : (K : Arithmetic) (a b : List ℕ) (n : ℕ) (s₀ : State) (w₀ : List ℕ) (s : State) (drawn : ℕ) (w : List ℕ) (e : Result (Unit {0}) Refusal) → check s drawn n ≡ stop e → Going K a b n s₀ w₀ s drawn w → Drawing K a b s₀ n w₀ (outcome s w drawn e)
going_stop K a b n s₀ w₀ s drawn w e c g = record { over_field = λ only. g.over_field only ∙ draw_stop (pair_of K a b) s drawn n w e c; over_kind = g.over_kind _ (stops s drawn w e c) }

-- nothing waits
pub going_empty : (K : Arithmetic) (a b : List ℕ) (n : ℕ) (s₀ : State) (w₀ : List ℕ) (s : State) (drawn : ℕ) (w w' : List ℕ) (c : Counts) → check s drawn n ≡ go → Drawn w w' None → counts s ≡ c → Going K a b n s₀ w₀ s drawn w → Drawing K a b s₀ n w₀ (outcome s w' drawn (Err (Empty c)))
going_empty K a b n s₀ w₀ s drawn w w' c ok (e, e') ce g = record {
  over_field = λ only. g.over_field only ∙ ap (draw_on (pair_of K a b) s drawn n) e ∙ ap (λ x. either x (outcome s [] drawn) (outcome s [] drawn (Err (Empty (counts s))))) ok ∙ ap₂ (λ l x. outcome s l drawn (Err (Empty x))) (sym e') ce;
  over_kind = subst (λ (x : Outcome). Draws K n s₀ 0 w₀ x) (ap₂ (λ l x. outcome s l drawn (Err (Empty x))) (sym e') ce) (g.over_kind _ (subst (λ (l : List ℕ). Draws K n s drawn l (outcome s [] drawn (Err (Empty (counts s))))) (sym e) (empty s drawn ok)));
}
