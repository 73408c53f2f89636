-- What a job stores stays so of its tables.
use Rattle.std.proofs.Common.{◌≡◌, ℕ, ◌<◌, ◌≤◌, List, sym, subst, arith}
use Rattle.coefficients.specs.Arithmetic.{Arithmetic, IsField}
use Rattle.rules.specs.declared.refusal.Refusal.{Refusal}
use Rattle.rules.specs.Numbers.{number}
use Rattle.steps.specs.declared.factored.Factored.{Factored}
use Rattle.steps.specs.Prepare.{WorkingsOf}
use Rattle.steps.specs.Answer.{ReductionOf}
use Rattle.reducer.specs.declared.standing.Standing.{Standing}
use Rattle.reducer.specs.declared.standing.Standing.TheVariants.{Gathering, Settled, Void}
use Rattle.reducer.specs.declared.job.Job.{Job}
use Rattle.reducer.specs.Room.{wanted}
use Rattle.reducer.specs.Sound.{Holds, Gathers, Settles, SoundAs, Sound}
use Rattle.reducer.specs.Holding.{Kept}

-- what is held, in the same rows
pub holds_kept : {K : Arithmetic} {a b : List ℕ} {k k' n n' : ℕ} {points points' : List ℕ} {images images' : Factored 496} → k ≡ k' → n ≡ n' → points ≡ points' → images ≡ images' → Holds K a b k n points images → Holds K a b k' n' points' images'
holds_kept {K = K} {a = a} {b = b} {k' = k'} {n = n} {n' = n'} {points = points} {points' = points'} {images = images} e f p i h =
    subst (λ (x : Factored 496). Holds K a b k' n' points' x) i (subst (λ (x : List ℕ). Holds K a b k' n' x images) p (subst (λ (x : ℕ). Holds K a b k' x points images) f (subst (λ (x : ℕ). Holds K a b x n points images) e h)))

module _ (K : Arithmetic) (a b : List ℕ) where
  pub sound_gathering : (j : Job) → j.standing ≡ Gathering → Gathers K a b j → Sound K a b j
  sound_gathering j e g = subst (λ (st : Standing). SoundAs st K a b j) (sym e) g

  pub gathering_sound : (j : Job) → j.standing ≡ Gathering → Sound K a b j → Gathers K a b j
  gathering_sound j e s = subst (λ (st : Standing). SoundAs st K a b j) e s

  pub sound_settled : (j : Job) → j.standing ≡ Settled → Settles K a b j → Sound K a b j
  sound_settled j e g = subst (λ (st : Standing). SoundAs st K a b j) (sym e) g

  pub sound_void : (j : Job) (r : Refusal) → j.standing ≡ Void r → (IsField K → ¬ (number r ≡ 5)) → Sound K a b j
  sound_void j r e n = subst (λ (st : Standing). SoundAs st K a b j) (sym e) n

  pub void_sound : (j : Job) (r : Refusal) → j.standing ≡ Void r → Sound K a b j → IsField K → ¬ (number r ≡ 5)
  void_sound j r e s = subst (λ (st : Standing). SoundAs st K a b j) e s

  -- a call that changes only counts
  gathers_kept : (j j' : Job) → Kept j j' → Gathers K a b j → Gathers K a b j'
  gathers_kept j j' k g = record { opens = g.opens; workings = subst (WorkingsOf K a b) (sym k.rows.workings) g.workings; holds = holds_kept (sym k.level) (sym k.held) (sym k.rows.points) (sym k.rows.images) g.holds }

  settles_kept : (j j' : Job) → Kept j j' → Settles K a b j → Settles K a b j'
  settles_kept j j' k t = record { opens = t.opens; reduction = subst (ReductionOf K a b) (sym k.reduction) t.reduction }

  sound_map : (st : Standing) (j j' : Job) → (Gathers K a b j → Gathers K a b j') → (Settles K a b j → Settles K a b j') → SoundAs st K a b j → SoundAs st K a b j'
  sound_map Gathering j j' f h x = f x
  sound_map Settled j j' f h x = h x
  sound_map (Void r) j j' f h x = x

  pub sound_kept : (j j' : Job) → Kept j j' → Sound K a b j → Sound K a b j'
  sound_kept j j' k x = subst (λ (st : Standing). SoundAs st K a b j') (sym k.standing) (sound_map j.standing j j' (gathers_kept j j' k) (settles_kept j j' k) x)

-- a job that gathers has room for one more
pub held_few : (j : Job) → j.standing ≡ Gathering → j.counts.held < 31
held_few j e = let more = subst (λ (st : Standing). wanted st j.counts.held ≤ j.workings.closing) e j.room in let most = j.closes in omega arith

pub held_below : (j : Job) → j.standing ≡ Gathering → j.counts.held < j.workings.closing
held_below j e = let more = subst (λ (st : Standing). wanted st j.counts.held ≤ j.workings.closing) e j.room in omega arith
