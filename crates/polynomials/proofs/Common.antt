-- Common divisors, and how the steps of Euclid's algorithm keep them.
use mathlib.Core.Path.{◌≡◌, sym, ap, ap₂, fun_ext, subst, ◌∙◌}
use mathlib.Core.Bool.{true}
use mathlib.Core.List.{List}
use mathlib.Core.Logic.{◌⊎◌, inl, inr}
use Prim.Native.Nat.{ℕ, suc, ◌-◌, ◌≤◌, ◌<◌}
use native.Mathlib.Omega.{arith}
use lib.ListN.{length, get_or}
use Rattle.std.proofs.lemmas.Bool.{cases_lt}
use Rattle.std.specs.declared.result.Result.{Result}
use Rattle.std.specs.declared.result.Result.TheVariants.{Ok, Err}
use Rattle.coefficients.specs.Arithmetic.{Arithmetic, Laws}
use Rattle.coefficients.specs.declared.kind.ReciprocalFault.{ReciprocalFault}
use Rattle.algebra.specs.Ring.{Ring, mul_zero, mul_comm}
use Rattle.algebra.specs.Divisors.{Divides, Greatest}
use Rattle.algebra.specs.Series.{series}
use Rattle.algebra.specs.Polynomial.{size, same, of_mul}
use Rattle.algebra.proofs.Divisors.{divides_self, divides_zero, divides_eq, divides_trans, divides_add, divides_rest, divides_mul_left}
use Rattle.polynomials.specs.Elements.{element_same, element_discrete, elements, coefficients, past_end, polynomial, polynomials}
use Rattle.polynomials.specs.Rows.{Inside, Sized}
use Rattle.polynomials.specs.Relations.{Remainder, NormalOf}
use Rattle.polynomials.specs.Steps.{Inverts, MadeMonic, Common}
use Rattle.polynomials.proofs.Terms.{mono, mono_mul, term, of_term}
use Rattle.polynomials.proofs.Meaning.{of_polynomial, code_at, code_mul, code_one, size_is, cleared}
use Rattle.polynomials.proofs.Inverse.{stuck, zero_product}

module _ {E : Type 0} (P : Ring E) where
  open P use {zero as 𝟘, add as ◌⊕◌, mul as ◌⊙◌}

  infixl 60 ◌⊕◌
  infixl 70 ◌⊙◌
  abbrev Shared : E → E → E → Type 0
  Shared a b d = Divides P d a × Divides P d b

  -- two pairs with the same common divisors
  pub record SameShared (a b a' b' : E) : Type 0 where
    pub forth : (d : E) → Shared a b d → Shared a' b' d
    pub back : (d : E) → Shared a' b' d → Shared a b d

  pub shared_step : (a b q r : E) → a ≡ q ⊙ b ⊕ r → (a₀ b₀ : E) → SameShared a₀ b₀ a b → SameShared a₀ b₀ b r
  shared_step a b q r e a₀ b₀ s = record { forth = λ d h. down d (s.forth d h); back = λ d h. s.back d (up d h) }
    where
      down : (d : E) → Shared a b d → Shared b r d
      down d (da, db) = (db, divides_rest P (divides_eq P e da) (divides_mul_left P q db))

      up : (d : E) → Shared b r d → Shared a b d
      up d (db, dr) = (divides_eq P (sym e) (divides_add P (divides_mul_left P q db) dr), db)

  pub shared_end : (a₀ b₀ a b d : E) → SameShared a₀ b₀ a b → b ≡ 𝟘 → Divides P a d → Divides P d a → Greatest P a₀ b₀ d
  shared_end a₀ b₀ a b d s z ad da =
      let whole = s.back d (da, divides_eq P (sym z) (divides_zero P d)) in
      record { left = whole.0; right = whole.1; greatest = λ x h k. divides_trans P (s.forth x (h, k)).0 ad }

-- Euclid's algorithm on rows, from a₀ and b₀ down to a and b
pub record Euclid (K : Arithmetic) (a₀ b₀ a b : List ℕ) (n : ℕ) : Type 0 where
  pub sized : Sized K b n
  pub long : length a ≡ length b
  pub inside : Inside K a₀ → Inside K b₀ → Inside K a × Inside K b
  pub shares : (laws : Laws K) → Inside K a₀ → Inside K b₀ → SameShared (polynomials laws) (polynomial laws a₀) (polynomial laws b₀) (polynomial laws a) (polynomial laws b)

pub euclid_more : (K : Arithmetic) (a₀ b₀ a b r : List ℕ) (n m : ℕ) → length r ≡ length a → Euclid K a₀ b₀ a b n → (Inside K a → Inside K b → Inside K r × ((laws : Laws K) → Remainder laws a b r)) → Sized K r m → Euclid K a₀ b₀ b r m
euclid_more K a₀ b₀ a b r n m e u d s = record {
  sized = s;
  long = let l = u.long in omega arith;
  inside = λ ha hb. let h = u.inside ha hb in (h.1, (d h.0 h.1).0);
  shares = λ lw ha hb. let h = u.inside ha hb in let q = (d h.0 h.1).1 lw in shared_step (polynomials lw) _ _ q.quo _ q.is _ _ (u.shares lw ha hb);
}

module _ {K : Arithmetic} (laws : Laws K) where
  -- a row times the reciprocal of its leading code
  module _ (f f' : List ℕ) (n c : ℕ) (fi : Inside K f) (fs : Sized K f n) (iv : Inverts K f n c) (len : length f' ≡ length f) (L : (i : ℕ) → i < length f → get_or f' i 0 ≡ K.product c (get_or f i 0)) where
    pub scaled_inside : Inside K f'
    scaled_inside i lt = ap K.element (L i (omega arith)) ∙ laws.product_in _ _

    scaled_lead : get_or f' (n - 1) 0 ≡ K.one
    scaled_lead = let some = iv.some in let w = fs.within in L (n - 1) (omega arith) ∙ laws.product_comm _ _ ∙ iv.is

    pub scaled_sized : Sized K f' n
    scaled_sized = record {
      within = let w = fs.within in omega arith;
      zeros = λ i le lt. L i (omega arith) ∙ ap (K.product c) (fs.zeros i le (omega arith)) ∙ laws.product_comm _ _ ∙ zero_product laws c iv.inside;
      lead = λ pos z. laws.apart (sym z ∙ scaled_lead);
    }

    -- a row each of whose codes is d times that of another is a multiple of it
    multiple : (lw : Laws K) (d : ℕ) (di : K.element d ≡ true) (g g' : List ℕ) → Inside K g → Inside K g' → length g' ≡ length g → ((i : ℕ) → i < length g → get_or g' i 0 ≡ K.product d (get_or g i 0)) → Divides (polynomials lw) (polynomial lw g) (polynomial lw g')
    multiple lw d di g g' hg hg' l e =
        (term (elements lw) (element_discrete K) (d, di) 0, same (elements lw) (element_discrete K) (of_polynomial lw g' ∙ fun_ext (λ k. at k (cases_lt k (length g))) ∙ sym (of_mul _ _ _ _ ∙ ap₂ (series (elements lw)).mul (of_term _ _ (d, di) 0) (of_polynomial lw g))) ∙ mul_comm (polynomials lw) _ _)
      where
        at : (k : ℕ) → (k < length g) ⊎ (length g ≤ k) → coefficients lw g' k ≡ (series (elements lw)).mul (mono (elements lw) (d, di) 0) (coefficients lw g) k
        at k (inl lt) = element_same K (code_at lw g' k hg' (omega arith) ∙ e k lt ∙ ap (K.product d) (sym (code_at lw g k hg lt)) ∙ sym (code_mul lw (d, di) (coefficients lw g k))) ∙ sym (mono_mul (elements lw) (d, di) 0 (coefficients lw g) k k (omega arith))
        at k (inr le) = past_end lw g' k (omega arith) ∙ sym (mono_mul (elements lw) (d, di) 0 (coefficients lw g) k k (omega arith) ∙ rw (past_end lw g k le) (mul_zero (elements lw) (d, di)))

    pub scaled_normal : (lw : Laws K) → NormalOf lw f f'
    scaled_normal lw = record {
      associates = (multiple lw c iv.inside f f' fi scaled_inside len L, multiple lw (get_or f (n - 1) 0) iv.lead_in f' f scaled_inside fi (omega arith) again);
      normal = λ ne. (n - 1, whole, one);
    }
      where
        whole : size (elements lw) (polynomial lw f') ≡ suc (n - 1)
        whole = let s = size_is lw f' n scaled_inside scaled_sized in let some = iv.some in omega arith

        one : (polynomial lw f').0 (n - 1) ≡ (elements lw).one
        one =
            let some = iv.some in
            let w = fs.within in
            ap (λ h. h (n - 1)) (of_polynomial lw f') ∙ element_same K (code_at lw f' (n - 1) scaled_inside (omega arith) ∙ scaled_lead ∙ sym (code_one lw))

        again : (i : ℕ) → i < length f' → get_or f i 0 ≡ K.product (get_or f (n - 1) 0) (get_or f' i 0)
        again i lt =
            let y : ℕ = get_or f (n - 1) 0 in
            let x : ℕ = get_or f i 0 in
            let h : K.element x ≡ true = fi i (omega arith) in
            sym (ap (K.product y) (L i (omega arith)) ∙ sym (laws.product_assoc y c x iv.lead_in iv.inside h) ∙ ap (λ z. K.product z x) iv.is ∙ laws.product_one x h)

  pub zero_normal : (f : List ℕ) → Inside K f → Sized K f 0 → (lw : Laws K) → NormalOf lw f f
  zero_normal f h s lw = record { associates = (divides_self (polynomials lw) _, divides_self (polynomials lw) _); normal = λ ne. absurd (ne (size_is lw f 0 h s)) }

-- the answer of the algorithm is what `make_monic` answers and leaves at the end
pub euclid_end : (K : Arithmetic) (a₀ b₀ a b d : List ℕ) (r : Result ℕ ReciprocalFault) → Euclid K a₀ b₀ a b 0 → MadeMonic K a d r → Common K a₀ b₀ d b r
euclid_end K a₀ b₀ a b d (Ok n) u h =
    λ ha hb.
    let inside = u.inside ha hb in
    let m = h inside.0 in (
      m.0,
      inside.1,
      m.1,
      (λ lw.
          let s = m.2 lw in
          record {
            greatest = shared_end (polynomials lw) _ _ (polynomial lw a) (polynomial lw b) _ (u.shares lw ha hb) (cleared lw b (λ i lt. u.sized.zeros i (omega arith) lt)) s.associates.0 s.associates.1;
            normal = s.normal;
          }),
      u.sized,
    )
euclid_end K a₀ b₀ a b d (Err e) u (kept, (n, pos, s, no_way)) =
    λ ha hb.
    let inside = u.inside ha hb in
    (subst (λ (l : List ℕ). Inside K l) (sym kept) inside.0, inside.1, stuck K a n pos s inside.0 e no_way)
