-- A root of a polynomial over a field splits off its linear factor, and only zero has as many roots as its size.
use Rattle.std.proofs.Common.{◌≡◌, ℕ, suc, ◌≤◌, List, [], ◌∷◌, length, sym, ap, ◌∙◌, ⊎_elim, arith}
use Rattle.algebra.specs.Ring.{combine, add_zero, mul_zero, mul_comm, sub_zero→eq}
use Rattle.algebra.specs.Solver.{by_ring, quoting}
use Rattle.algebra.specs.Divisors.{Divides}
use Rattle.algebra.specs.Series.{cons_suc, at_one}
use Rattle.algebra.specs.Bounded.{below_cons, one_below}
use Rattle.algebra.specs.Polynomial.{Poly, poly, size, size_unique, zero?, at, evaluate}
use Rattle.algebra.specs.Change.{number, number_zero, at_number, linear, of_linear, at_linear}
use Rattle.algebra.specs.Field.{Field, field_domain}
use Rattle.algebra.specs.Lists.{All, Distinct}
use Rattle.algebra.specs.OneUnknown.{Quotient}
use Rattle.algebra.proofs.Euclid.{size_zero, quotient}
use Rattle.algebra.proofs.Degrees.{size_of_zero, size_product, constant_is}

all_map : {A : Type 0} {P Q S : A → Type 0} → ((a : A) → P a → Q a → S a) → (l : List A) → All P l → All Q l → All S l
all_map f [] p q = tt
all_map f (a ∷ l) p q = (f a p.0 q.0, all_map f l p.1 q.1)

module _ {E : Type 0} (F : Field E) where
  open F use {ring as K, discrete as eq, zero≢one}
  open K use {zero as 𝟘, one as 𝟙, add as ◌⊕◌, neg as ⊖◌, mul as ◌⊙◌}
  open poly K eq use {zero as 𝟎, add as ◌⊞◌, mul as ◌⊠◌}

  infixl 60 ◌⊕◌
  infixl 70 ◌⊙◌
  infix 80 ⊖◌
  infixl 60 ◌⊞◌
  infixl 70 ◌⊠◌
  pub linear_size : (a : E) → size K (linear K eq a) ≡ 2
  linear_size a =
      let p = linear K eq a in
      size_unique K p.0 (size K p) 2 p.1.1.0 p.1.1.1 (rw (of_linear K eq a) (below_cons K 1 _ _ (one_below K))) (λ z. zero≢one (sym z ∙ ap (λ f. f 1) (of_linear K eq a) ∙ cons_suc _ _ 0 ∙ at_one K))

  pub linear_nonzero : (a : E) → ¬ (linear K eq a ≡ 𝟎)
  linear_nonzero a z =
      let e = sym (linear_size a) ∙ ap (size K) z ∙ size_of_zero K eq in
      omega arith

  pub root : (a : E) (p : Poly K) → at K eq a p ≡ 𝟘 → Divides (poly K eq) (linear K eq a) p
  unfolding evaluate
  root a p z = (t.quo, t.is ∙ ap (λ r. t.quo ⊠ linear K eq a ⊞ r) none ∙ add_zero (poly K eq) _ ∙ mul_comm (poly K eq) _ _)
    where
      t : Quotient F p (linear K eq a)
      t = quotient F p (linear K eq a) (linear_nonzero a)

      law : (v s l r : E) → v ≡ s ⊙ l ⊕ r → l ≡ a ⊕ ⊖ a → v ≡ 𝟘 → r ≡ 𝟘
      law v s l r e f z = combine K (⊖ 𝟙) e (combine K (⊖ s) f (combine K 𝟙 z (by_ring K (a ∷ v ∷ s ∷ l ∷ r ∷ []) (search quoting depth 30) tt)))

      value : at K eq a t.rem ≡ 𝟘
      value = law _ _ _ _ (ap (at K eq a) t.is ∙ (evaluate K eq a).map_add _ _ ∙ ap (λ x. x ⊕ at K eq a t.rem) ((evaluate K eq a).map_mul _ _)) (at_linear K eq a a) z

      constant : t.rem ≡ number K eq (t.rem.0 0)
      constant =
          let l = t.less in
          let s = linear_size a in
          constant_is K eq t.rem (omega arith)

      none : t.rem ≡ 𝟎
      none = constant ∙ ap (number K eq) (sym (at_number K eq a _) ∙ ap (at K eq a) (sym constant) ∙ value) ∙ number_zero K eq

  -- what is left of p without the factor: its size, and its other roots
  module _ (a : E) (p q : Poly K) (e : p ≡ linear K eq a ⊠ q) where
    rest_size : (n : ℕ) → size K p ≤ suc n → size K q ≤ n
    rest_size n le = go (zero? K eq q)
      where
        go : Dec (q ≡ 𝟎) → size K q ≤ n
        go (yes z) = let s = ap (size K) z ∙ size_of_zero K eq in omega arith
        go (no ne) =
            let s = size_product K eq (field_domain F) (linear K eq a) q (linear_nonzero a) ne in
            let l = linear_size a in
            let i = ap (size K) e in
            omega arith

    rest_root : (b : E) → ¬ (b ≡ a) → at K eq b p ≡ 𝟘 → at K eq b q ≡ 𝟘
    unfolding evaluate
    rest_root b ne z = ⊎_elim (λ y. absurd (ne (sub_zero→eq K b a (sym (at_linear K eq b a) ∙ y)))) (λ y. y) ((field_domain F).cancel _ _ tt tt (sym ((evaluate K eq b).map_mul _ _) ∙ ap (at K eq b) (sym e) ∙ z))

  pub roots : (xs : List E) (p : Poly K) → Distinct xs → All (λ x. at K eq x p ≡ 𝟘) xs → size K p ≤ length xs → p ≡ 𝟎
  roots [] p d z le = size_zero K eq p (omega arith)
  roots (a ∷ xs) p d z le =
      let (q, e) = root a p z.0 in
      e ∙ ap (λ x. linear K eq a ⊠ x) (roots xs q d.1 (all_map (λ b. rest_root a p q e b) xs d.0 z.1) (rest_size a p q e (length xs) (omega arith))) ∙ mul_zero (poly K eq) _
