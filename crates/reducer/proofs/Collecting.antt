-- What is collected from a job, by the rule.
use Rattle.std.proofs.Common.{◌≡◌, ℕ, List, length, Ok, Err, Result, sym, ap, ◌∙◌, subst, arith}
use Rattle.coefficients.specs.Arithmetic.{Arithmetic, Laws, IsField}
use Rattle.rules.specs.declared.refusal.Refusal.{Refusal}
use Rattle.rules.specs.Job.{settled, State}
use Rattle.rules.specs.Run.{Call, play}
use Rattle.rulebook.specs.Pairs.{pair_of}
use Rattle.rulebook.specs.Opening.{open_rule}
use Rattle.rulebook.specs.Collecting.{Tables, collected, collect_rule}
use Rattle.rulebook.specs.Law.{Whole, Answers}
use Rattle.rulebook.proofs.Collecting.{collects}
use Rattle.rulebook.proofs.Law.{law_over}
use Rattle.reducer.specs.declared.standing.Standing.TheVariants.{Settled}
use Rattle.reducer.specs.declared.job.Job.{Job}
use Rattle.reducer.specs.State.{stage_of, state_of}
use Rattle.reducer.specs.Sound.{Settles, SoundAs, Sound}
use Rattle.reducer.specs.Promises.{Collects}

module _ (K : Arithmetic) (a b : List ℕ) (j : Job) (d l r : List ℕ) where
  abbrev s : State
  s = state_of j

  -- a settled job, into tables with room
  module _ (laws : Laws K) (is : j.standing ≡ Settled) (sound : Sound K a b j) (d_long : length d ≡ 256) (l_long : length l ≡ 256) (r_long : length r ≡ 256) (long : length j.reduction.divisor ≡ 256) (left_long : length j.reduction.left ≡ 256) (right_long : length j.reduction.right ≡ 256) where
    settles : Settles K a b j
    settles = subst (λ (t : _). SoundAs t K a b j) is sound

    stage_is : s.stage ≡ settled
    stage_is = ap stage_of is

    divisor_whole : Whole K j.reduction.divisor
    divisor_whole = record { long = long; inside = settles.reduction.elements.divisor_in }

    left_whole : Whole K j.reduction.left
    left_whole = record { long = left_long; inside = settles.reduction.elements.left_in }

    right_whole : Whole K j.reduction.right
    right_whole = record { long = right_long; inside = settles.reduction.elements.right_in }

    given : collect_rule K a b s (length d) (length l) (length r) ≡ Ok (collected K a b s)
    given = collects K a b s (length d) (length l) (length r) stage_is d_long l_long r_long

    abbrev written : Tables
    written = record { divisor = j.reduction.divisor; cofactor_A = j.reduction.left; cofactor_B = j.reduction.right }

    answers : (only : IsField K) → Answers laws only a b written
    answers only = record { divisor = divisor_whole; cofactor_A = left_whole; cofactor_B = right_whole; reduced = settles.reduction.reduced laws only }

    rule : IsField K → (calls : List Call) → s ≡ (play (pair_of K a b) (open_rule K a b) calls).0 → collect_rule K a b s (length d) (length l) (length r) ≡ Ok written
    rule only calls e =
        let law = (law_over K a b laws only settles.opens).job calls in
        let same : written ≡ collected K a b (play (pair_of K a b) (open_rule K a b) calls).0 = law.only_answers (sym (ap (λ (t : State). t.stage) e) ∙ stage_is) written (answers only) in
        given ∙ ap (λ (t : State). Ok (collected K a b t)) e ∙ ap (λ (t : Tables). Ok t) (sym same)

    pub wrote : Collects K a b s d l r j.reduction.divisor j.reduction.left j.reduction.right (Ok tt)
    wrote = record {
      refusals = λ e h. no_refusal h;
      collected = λ h. (given, divisor_whole, left_whole, right_whole);
      reduced = λ h laws only. settles.reduction.reduced laws only;
      by_rule = λ h. rule;
    }
      where
        no_refusal : {A : Type 0} {e : Refusal} → ◌≡◌ {A = Result (Unit {0}) Refusal} (Ok tt) (Err e) → A
        no_refusal h = let z : ◌≡◌ {A = ℕ} 0 1 = cc in absurd (omega arith)
