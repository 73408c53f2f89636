-- Division of lists over a ring with no zero divisors: where quotient and remainder exist, they are found.
use Rattle.std.proofs.Common.{◌≡◌, ℕ, suc, ◌<◌, ◌≤◌, Bool, true, false, ltb, List, [], ◌∷◌, length, sym, refl, ap, ◌∙◌, ap₂, arith}
use mathlib.Core.HLevel.{Discrete}
use Rattle.std.proofs.lemmas.Bool.{ltb-true, ltb-false}
use Rattle.algebra.specs.Ring.{Ring, ring, combine, mul_zero, zero_mul, mul_comm, add_zero, zero_add}
use Rattle.algebra.specs.Bounded.{Below, Domain, Any}
use Rattle.algebra.specs.Polynomial.{Poly, poly, size, size_least, zero?}
use Rattle.algebra.specs.Change.{number}
use Rattle.algebra.specs.Solver.{by_ring, quoting}
use Rattle.algebra.proofs.Degrees.{number_coef, coef_zero, coef_add, coef_scale, below_size, below_difference, leading, size_product}
use Rattle.values.specs.Ops.{Ops, put, sub, scale, lead, turn, divide_by}
use Rattle.values.specs.Meaning.{Trimmed, Codes}
use Rattle.values.proofs.Grow.{grow, grow_add, grow_mul, grow_same, rest, grow_parts, rest_size}
use Rattle.values.proofs.Lists.{Reading, put_in, put_is, sub_in, sub_is, scale_in, scale_is, size_is, lead_in, lead_coef, more_nonzero}

module _ {A E : Type 0} {O : Ops A} {R : Ring E} {eq : Discrete E} {In : A → Type 0} {mean : A → E} {m : List A → Poly R} (L : Reading O R eq In mean m) (D : Domain R Any) where
  open R use {zero as 𝟘, add as ◌⊕◌, mul as ◌⊙◌}
  open poly R eq use {zero as 𝟎, one as 𝟏, add as ◌⊞◌, neg as ⊟◌, mul as ◌⊠◌}

  infixl 60 ◌⊕◌
  infixl 70 ◌⊙◌
  infixl 60 ◌⊞◌
  infixl 70 ◌⊠◌
  infix 80 ⊟◌
  abbrev C : Codes O R In mean
  C = L.codes

  abbrev Ok : List A → Type 0
  Ok xs = Trimmed O.null In xs

  -- what makes a smaller multiple is zero
  small_multiple : (a b : Poly R) → ¬ (a ≡ 𝟎) → size R b < size R a → (t : Poly R) → b ≡ a ⊠ t → t ≡ 𝟎
  small_multiple a b n l t e = go (zero? R eq t)
    where
      go : Dec (t ≡ 𝟎) → t ≡ 𝟎
      go (yes z) = z
      go (no k) =
          let s = size_product R eq D a t n k in
          let p = (leading R eq t k).is_size in
          let i = ap (size R) e in
          absurd (omega arith)

  -- d is the quotient Q and the remainder t
  pub record Divided (Q t : Poly R) (d : List A × List A) : Type 0 where
    pub quotient_in : Ok d.0
    pub remainder_in : Ok d.1
    pub quotient_is : m d.0 ≡ Q
    pub remainder_is : m d.1 ≡ t

  -- the divisor y ∷ ys', and `part`, which divides by its leading coefficient
  module _ (y : A) (ys' : List A) (ok : Ok (y ∷ ys')) (part : A → A) (part_in : (a : A) → In a → In (part a)) (part_is : (a : A) → In a → (c : E) → mean a ≡ mean (lead O (y ∷ ys')) ⊙ c → mean (part a) ≡ c) where
    abbrev ys : List A
    ys = y ∷ ys'

    abbrev b : Poly R
    b = m ys

    abbrev n : ℕ
    n = length ys'

    b_nonzero : ¬ (b ≡ 𝟎)
    b_nonzero = more_nonzero L y ys' ok

    b_size : size R b ≡ suc n
    b_size = size_is L ys ok

    -- the quotient Q with its constant c, and u, which is left once the rest of Q is found
    module _ (x : A) (xs : List A) (x_in : In x) (Q t : Poly R) (e : m (x ∷ xs) ≡ Q ⊠ b ⊞ t) (l : size R t ≤ n) where
      c : E
      c = Q.0 0

      u : Poly R
      u = number R eq c ⊠ b ⊞ t

      parted : grow R eq (mean x) (m xs) ≡ grow R eq (𝟘 ⊕ u.0 0) (rest R eq Q ⊠ b ⊞ rest R eq u)
      unfolding u c
      parted =
          sym (L.more x xs) ∙ e ∙ ap (λ q. q ⊠ b ⊞ t) (grow_parts R eq Q) ∙ ap (λ q. q ⊞ t) (grow_mul R eq c (rest R eq Q) b) ∙ law _ _ _
          ∙ ap (λ q. grow R eq 𝟘 (rest R eq Q ⊠ b) ⊞ q) (grow_parts R eq u) ∙ grow_add R eq _ _ _ _
        where
          law : (p q r : Poly R) → p ⊞ q ⊞ r ≡ q ⊞ (p ⊞ r)
          law p q r = simp ring

      first : mean x ≡ u.0 0
      first = (grow_same R eq _ _ _ _ parted).0 ∙ zero_add R _

      later : m xs ≡ rest R eq Q ⊠ b ⊞ rest R eq u
      later = (grow_same R eq _ _ _ _ parted).1

      u_below : Below R (suc n) u.0
      unfolding u
      u_below k le = coef_add R eq (number R eq c ⊠ b) t k ∙ ap₂ ◌⊕◌ (coef_scale R eq c b k ∙ ap (λ z. c ⊙ z) (below_size R eq b (suc n) (omega (arith, b_size)) k le) ∙ mul_zero R _) (below_size R eq t (suc n) (omega arith) k le) ∙ add_zero R _

      later_size : size R (rest R eq u) ≤ n
      later_size = rest_size R eq u n (size_least R u (suc n) u_below)

      module _ (d : List A × List A) (X : Divided (rest R eq Q) (rest R eq u) d) where
        r : List A
        r = put O x d.1

        r_in : Ok r
        unfolding r
        r_in = put_in L x d.1 x_in X.remainder_in

        r_is : m r ≡ u
        unfolding r
        r_is = put_is L x d.1 x_in ∙ ap₂ (grow R eq) first X.remainder_is ∙ sym (grow_parts R eq u)

        r_size : length r ≡ size R u
        r_size = sym (size_is L r r_in) ∙ ap (size R) r_is

        turned : Divided Q t (turn O part ys d.0 (put O x d.1))
        unfolding u c r
        turned = go (ltb (length r) (suc n)) refl
          where
            p : A
            p = part (lead O r)

            difference : (p q : Poly R) → q ≡ p ⊞ q ⊞ ⊟ p
            difference p q = by_ring (poly R eq) (p ∷ q ∷ []) (search quoting depth 30) tt

            low : length r < suc n → number R eq c ≡ 𝟎
            low s =
                let z = r_size in
                small_multiple b (u ⊞ ⊟ t) b_nonzero (let f = size_least R (u ⊞ ⊟ t) n (below_difference R eq n u t (below_size R eq u n (omega arith)) (below_size R eq t n l)) in omega (arith, b_size)) (number R eq c) (law _ _ _)
              where
                law : (p b t : Poly R) → p ⊠ b ⊞ t ⊞ ⊟ t ≡ b ⊠ p
                law p b t = by_ring (poly R eq) (p ∷ b ∷ t ∷ []) (search quoting depth 30) tt

            high : suc n ≤ length r → mean (lead O r) ≡ mean (lead O ys) ⊙ c
            high s =
                let z = r_size in
                let f = size_least R u (suc n) u_below in
                let len : length r ≡ suc n = omega arith in
                lead_coef L r n len ∙ ap (λ (q : Poly R). q.0 n) r_is ∙ coef_add R eq (number R eq c ⊠ b) t n ∙ ap₂ ◌⊕◌ (coef_scale R eq c b n ∙ ap (λ z. c ⊙ z) (sym (lead_coef L ys n refl))) (below_size R eq t n l n (omega arith)) ∙ add_zero R _ ∙ mul_comm R _ _

            go : (v : Bool) → ltb (length r) (suc n) ≡ v → Divided Q t (elim v as (λ z. List A × List A) [ true ↦ (put O O.zero d.0, r) | false ↦ (put O p d.0, sub O r (scale O p ys)) ])
            go true v =
                let z = low (ltb-true _ _ v) in
                let c_zero : c ≡ 𝟘 = sym (number_coef R eq c) ∙ ap (λ (q : Poly R). q.0 0) z ∙ coef_zero R eq 0 in
                record {
                  quotient_in = put_in L _ d.0 C.zero_in X.quotient_in;
                  remainder_in = r_in;
                  quotient_is = put_is L _ d.0 C.zero_in ∙ ap₂ (grow R eq) (C.zero_is ∙ sym c_zero) X.quotient_is ∙ sym (grow_parts R eq Q);
                  remainder_is = r_is ∙ ap (λ q. q ⊠ b ⊞ t) z ∙ ap (λ q. q ⊞ t) (zero_mul (poly R eq) b) ∙ zero_add (poly R eq) t;
                }
            go false v =
                let li = lead_in L r r_in in
                let p_in = part_in (lead O r) li in
                let p_is = part_is (lead O r) li c (high (ltb-false _ _ v)) in
                record {
                  quotient_in = put_in L p d.0 p_in X.quotient_in;
                  remainder_in = sub_in L r (scale O p ys) r_in (scale_in L p ys p_in ok);
                  quotient_is = put_is L p d.0 p_in ∙ ap₂ (grow R eq) p_is X.quotient_is ∙ sym (grow_parts R eq Q);
                  remainder_is = sub_is L r (scale O p ys) r_in (scale_in L p ys p_in ok) ∙ ap₂ (λ q s. q ⊞ ⊟ s) r_is (scale_is L p ys p_in ok ∙ ap (λ z. number R eq z ⊠ b) p_is) ∙ sym (difference _ _);
                }

    pub divide_by_is : (xs : List A) → Ok xs → (Q t : Poly R) → m xs ≡ Q ⊠ b ⊞ t → size R t ≤ n → Divided Q t (divide_by O part ys xs)
    divide_by_is [] h Q t e l =
        let z = small_multiple b t b_nonzero (omega (arith, b_size)) (⊟ Q) (law Q b t (sym L.none ∙ e)) in
        let q : Q ≡ 𝟎 = law₂ Q z in
        record { quotient_in = tt; remainder_in = tt; quotient_is = L.none ∙ sym q; remainder_is = e ∙ ap (λ p. p ⊠ b ⊞ t) q ∙ ap (λ p. p ⊞ t) (zero_mul (poly R eq) b) ∙ zero_add (poly R eq) t }
      where
        law : (q b t : Poly R) → 𝟎 ≡ q ⊠ b ⊞ t → t ≡ b ⊠ ⊟ q
        law q b t e = combine (poly R eq) (⊟ 𝟏) e (by_ring (poly R eq) (q ∷ b ∷ t ∷ []) (search quoting depth 30) tt)

        law₂ : (q : Poly R) → ⊟ q ≡ 𝟎 → q ≡ 𝟎
        law₂ q e = combine (poly R eq) (⊟ 𝟏) e (by_ring (poly R eq) (q ∷ []) (search quoting depth 30) tt)
    divide_by_is (x ∷ xs) h Q t e l = turned x xs h.0 Q t e l _ (divide_by_is xs h.1 (rest R eq Q) (rest R eq (u x xs h.0 Q t e l)) (later x xs h.0 Q t e l) (later_size x xs h.0 Q t e l))
