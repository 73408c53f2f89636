-- After any list of calls, one more.
use Rattle.std.proofs.Common.{◌≡◌, ℕ, List, [], ◌∷◌, ◌++◌, sym, refl, ap, ◌∙◌, subst}
use Rattle.coefficients.specs.Arithmetic.{Arithmetic, IsField}
use Rattle.rules.specs.Job.{Pair, State}
use Rattle.rules.specs.Run.{Call, called, play, points_offered}
use Rattle.rulebook.specs.Pairs.{pair_of}
use Rattle.rulebook.specs.Opening.{open_rule}
use Rattle.rulebook.specs.Law.{TableJob}
use Rattle.rulebook.proofs.Opening.{opening_law}
use Rattle.rulebook.proofs.Law.{law_over}
use Rattle.reducer.specs.Promises.{Ahead, After}

play_last : (pair : Pair) (s : State) (calls : List Call) (c : Call) → (play pair s (calls ++ c ∷ [])).0 ≡ (called pair (play pair s calls).0 c).0
play_last pair s [] c = refl
play_last pair s (d ∷ calls) c = play_last pair (called pair s d).0 calls c

pub ahead : (K : Arithmetic) (a b : List ℕ) → Ahead K a b
ahead K a b = (opening_law K a b, law_over K a b)

pub after : (K : Arithmetic) (a b : List ℕ) (s : State) (c : Call) (s' : State) → (IsField K → (called (pair_of K a b) s c).0 ≡ s') → After K a b s c s'
after K a b s c s' rule laws only opens =
    let law = law_over K a b laws only opens in
    (law, λ calls e. subst (λ (x : State). TableJob laws only a b law.p x (points_offered (pair_of K a b) (calls ++ c ∷ []))) (play_last (pair_of K a b) (open_rule K a b) calls c ∙ ap (λ (v : State). (called (pair_of K a b) v c).0) (sym e) ∙ rule only) (law.job (calls ++ c ∷ [])))
