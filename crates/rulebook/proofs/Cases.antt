-- The worked cases, by computing. The need of a pair and how many elements are not lucky follow from a job that is settled.
use Rattle.std.proofs.Common.{◌≡◌, ℕ, List, [], ◌∷◌, None, refl}
use Rattle.coefficients.specs.Arithmetic.{Arithmetic, Laws, IsField}
use Rattle.coefficients.specs.Below.{inverse_below}
use Rattle.coefficients.specs.Byte.{x_times, times}
use Rattle.brown.specs.Prepared.{Prepared, need, unlucky_bound}
use Rattle.brown.proofs.Preparation.{preparation}
use Rattle.rules.specs.Job.{settled}
use Rattle.rules.specs.Run.{Call, play, running}
use Rattle.polynomials.specs.Elements.{table}
use Rattle.values.specs.Meaning.{scalars}
use Rattle.rulebook.specs.Pairs.{pair_of}
use Rattle.rulebook.specs.Opening.{opening, open_rule}
use Rattle.rulebook.specs.Collecting.{collected, need_found, bound_found}
use Rattle.rulebook.specs.Cases.{with_content, counted, BelongTo, AllHold}
use Rattle.rulebook.proofs.Law.{law_over}

-- whatever is prepared, its numbers are those that a settled job gives
module _ {K : Arithmetic} (laws : Laws K) (only : IsField K) (a b : List ℕ) (opens : opening K a b ≡ None) (calls : List Call) (ends : (play (pair_of K a b) (open_rule K a b) calls).0.stage ≡ settled) (q : Prepared (scalars laws only) (table laws a) (table laws b)) where
  needs : need (scalars laws only) q ≡ need_found K a b (play (pair_of K a b) (open_rule K a b) calls).0
  needs = let l = law_over K a b laws only opens in let t = (preparation (scalars laws only)).unique q l.p in rw (t.G', t.γ, t.A', t.B') ((l.job calls).numbers ends).0

  bounds : unlucky_bound (scalars laws only) q ≡ bound_found K a b (play (pair_of K a b) (open_rule K a b) calls).0
  bounds = let l = law_over K a b laws only opens in let t = (preparation (scalars laws only)).unique q l.p in rw (t.γ, t.Ā', t.B̄') ((l.job calls).numbers ends).1

numbers : BelongTo with_content (3 ∷ 1 ∷ []) 4 4 2
unfolding pair_of opening inverse_below
numbers = record {
  γ_is = refl;
  closing_is = refl;
  need_is = λ laws only q. needs laws only _ _ refl (running (counted 11 0) 11 ∷ []) refl q;
  unlucky_is = λ laws only q. bounds laws only _ _ refl (running (counted 11 0) 11 ∷ []) refl q;
}

infixr 20 ◌and◌
◌and◌ : {X Y : Type 0} → X → Y → X × Y
x and y = (x, y)

pub all_hold : AllHold
unfolding ◌and◌ pair_of opening collected inverse_below x_times times
all_hold =
    (refl, refl) and numbers
    and record { replies = refl; stage = refl; counts = refl; held = refl; collected = refl }
    and record { replies = refl; stage = refl; counts = refl; held = refl; collected = refl }
    and record { replies = refl; stage = refl; counts = refl; held = refl; collected = refl }
    and record { replies = refl; stage = refl; counts = refl; held = refl; collected = refl }
    and record { replies = refl; stage = refl; counts = refl; held = refl; collected = refl }
    and record { replies = refl; stage = refl; counts = refl; held = refl; collected = refl }
    and record { replies = refl; stage = refl; counts = refl; held = refl; collected = refl }
    and refl
    and record { replies = refl; stage = refl; counts = refl; held = refl; collected = refl }
    and tt
