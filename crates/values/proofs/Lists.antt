-- Lists of codes that stand for polynomials: sums, differences, products, multiples, leads and values are those of the polynomials.
use Rattle.std.proofs.Common.{◌≡◌, ℕ, zero, suc, pred, ◌≤◌, Bool, true, false, List, [], ◌∷◌, length, sym, refl, ap, ◌∙◌, ap₂, arith}
use mathlib.Core.HLevel.{Discrete}
use Rattle.algebra.specs.Ring.{Ring, mul_zero, zero_mul, add_zero, zero_add, neg_zero}
use Rattle.algebra.specs.Lead as Algebra
use Rattle.algebra.specs.Lists.{All}
use Rattle.algebra.specs.Polynomial.{Poly, poly, size, at}
use Rattle.algebra.specs.Change.{number, number_one}
use Rattle.algebra.proofs.Degrees.{coef_zero, size_of_zero}
use Rattle.values.specs.Ops.{Ops, put, trim, add, negate, sub, scale, mul, lead, value, none, lists}
use Rattle.values.specs.Meaning.{Ends, Trimmed, Codes}
use Rattle.values.specs.Relations.{Unique}
use Rattle.values.proofs.Grow.{grow, grow_zero, grow_number, grow_add, grow_neg, grow_scale, grow_mul, grow_at, grow_size_zero, grow_size_suc, grow_same, grow_first, grow_rest, positive_nonzero, at_zero_is}

module _ {A : Type 0} (O : Ops A) where
  pub put_length : (x : A) (ys : List A) → length (put O x ys) ≤ suc (length ys)
  put_length x (y ∷ ys) = omega arith
  put_length x [] = go (O.null x)
    where
      go : (b : Bool) → length (elim b as (λ z. List A) [ true ↦ [] | false ↦ x ∷ [] ]) ≤ 1
      go true = omega arith
      go false = omega arith

  -- what is trimmed stays
  pub put_same : (x : A) (xs : List A) → Ends O.null x xs → put O x xs ≡ x ∷ xs
  put_same x (y ∷ ys) e = refl
  put_same x [] e = go (O.null x) e
    where
      go : (b : Bool) → b ≡ false → elim b as (λ z. List A) [ true ↦ [] | false ↦ x ∷ [] ] ≡ x ∷ []
      go true e = let z : ◌≡◌ {A = ℕ} 0 1 = cc in absurd (omega arith)
      go false e = refl

  pub trim_length : (xs : List A) → length (trim O xs) ≤ length xs
  trim_length [] = omega arith
  trim_length (x ∷ xs) = let i = trim_length xs in let l = put_length x (trim O xs) in omega arith

-- the codes stand for the elements of a ring, and m reads a list of codes as the polynomial with these coefficients
pub record Reading {A E : Type 0} (O : Ops A) (R : Ring E) (eq : Discrete E) (In : A → Type 0) (mean : A → E) (m : List A → Poly R) : Type 0 where
  pub codes : Codes O R In mean
  pub none : m [] ≡ (poly R eq).zero
  pub more : (x : A) (xs : List A) → m (x ∷ xs) ≡ grow R eq (mean x) (m xs)

module _ {A E : Type 0} {O : Ops A} {R : Ring E} {eq : Discrete E} {In : A → Type 0} {mean : A → E} {m : List A → Poly R} (L : Reading O R eq In mean m) where
  open R use {zero as 𝟘, one as 𝟙, add as ◌⊕◌, neg as ⊖◌, mul as ◌⊙◌}
  open poly R eq use {zero as 𝟎, add as ◌⊞◌, neg as ⊟◌, mul as ◌⊠◌}

  infixl 60 ◌⊕◌
  infixl 70 ◌⊙◌
  infix 80 ⊖◌
  infixl 60 ◌⊞◌
  infixl 70 ◌⊠◌
  infix 80 ⊟◌
  abbrev C : Codes O R In mean
  C = L.codes

  abbrev Ok : List A → Type 0
  Ok xs = Trimmed O.null In xs

  -- one coefficient more
  pub put_in : (x : A) (ys : List A) → In x → Ok ys → Ok (put O x ys)
  put_in x (y ∷ ys) h k = (h, k, tt)
  put_in x [] h k = go (O.null x) refl
    where
      go : (b : Bool) → O.null x ≡ b → Ok (elim b [ true ↦ [] | false ↦ x ∷ [] ])
      go true e = tt
      go false e = (h, tt, e)

  pub put_is : (x : A) (ys : List A) → In x → m (put O x ys) ≡ grow R eq (mean x) (m ys)
  put_is x (y ∷ ys) h = L.more x (y ∷ ys)
  put_is x [] h = go (O.null x) refl
    where
      go : (b : Bool) → O.null x ≡ b → m (elim b [ true ↦ [] | false ↦ x ∷ [] ]) ≡ grow R eq (mean x) (m [])
      go true e = L.none ∙ sym (ap₂ (grow R eq) (C.null_zero x h e) L.none ∙ grow_zero R eq)
      go false e = L.more x []

  pub trim_in : (xs : List A) → All In xs → Ok (trim O xs)
  trim_in [] h = tt
  trim_in (x ∷ xs) h = put_in x (trim O xs) h.0 (trim_in xs h.1)

  pub trim_is : (xs : List A) → All In xs → m (trim O xs) ≡ m xs
  trim_is [] h = refl
  trim_is (x ∷ xs) h = put_is x (trim O xs) h.0 ∙ ap (grow R eq (mean x)) (trim_is xs h.1) ∙ sym (L.more x xs)

  -- sums
  pub add_in : (xs ys : List A) → Ok xs → Ok ys → Ok (add O xs ys)
  add_in [] ys h k = k
  add_in (x ∷ xs) [] h k = h
  add_in (x ∷ xs) (y ∷ ys) h k = put_in _ (add O xs ys) (C.sum_in x y h.0 k.0) (add_in xs ys h.1 k.1)

  pub add_is : (xs ys : List A) → Ok xs → Ok ys → m (add O xs ys) ≡ m xs ⊞ m ys
  add_is [] ys h k = sym (ap (λ p. p ⊞ m ys) L.none ∙ zero_add (poly R eq) _)
  add_is (x ∷ xs) [] h k = sym (ap (λ p. m (x ∷ xs) ⊞ p) L.none ∙ add_zero (poly R eq) _)
  add_is (x ∷ xs) (y ∷ ys) h k =
      put_is _ (add O xs ys) (C.sum_in x y h.0 k.0)
      ∙ ap₂ (grow R eq) (C.sum_is x y h.0 k.0) (add_is xs ys h.1 k.1)
      ∙ sym (ap₂ ◌⊞◌ (L.more x xs) (L.more y ys) ∙ grow_add R eq _ _ _ _)

  pub negate_in : (xs : List A) → Ok xs → Ok (negate O xs)
  negate_in [] h = tt
  negate_in (x ∷ xs) h = put_in _ (negate O xs) (C.difference_in _ _ C.zero_in h.0) (negate_in xs h.1)

  pub negate_is : (xs : List A) → Ok xs → m (negate O xs) ≡ ⊟ m xs
  negate_is [] h = L.none ∙ sym (ap ⊟◌ L.none ∙ neg_zero (poly R eq))
  negate_is (x ∷ xs) h =
      put_is _ (negate O xs) (C.difference_in _ _ C.zero_in h.0)
      ∙ ap₂ (grow R eq) (C.difference_is _ _ C.zero_in h.0 ∙ ap (λ z. z ⊕ ⊖ mean x) C.zero_is ∙ zero_add R _) (negate_is xs h.1)
      ∙ sym (ap ⊟◌ (L.more x xs) ∙ grow_neg R eq _ _)

  pub sub_in : (xs ys : List A) → Ok xs → Ok ys → Ok (sub O xs ys)
  sub_in xs ys h k = add_in xs (negate O ys) h (negate_in ys k)

  pub sub_is : (xs ys : List A) → Ok xs → Ok ys → m (sub O xs ys) ≡ m xs ⊞ ⊟ m ys
  sub_is xs ys h k = add_is xs (negate O ys) h (negate_in ys k) ∙ ap (λ p. m xs ⊞ p) (negate_is ys k)

  -- products
  pub scale_in : (c : A) (xs : List A) → In c → Ok xs → Ok (scale O c xs)
  scale_in c [] i h = tt
  scale_in c (x ∷ xs) i h = put_in _ (scale O c xs) (C.product_in _ _ i h.0) (scale_in c xs i h.1)

  pub scale_is : (c : A) (xs : List A) → In c → Ok xs → m (scale O c xs) ≡ number R eq (mean c) ⊠ m xs
  scale_is c [] i h = L.none ∙ sym (ap (λ p. number R eq (mean c) ⊠ p) L.none ∙ mul_zero (poly R eq) _)
  scale_is c (x ∷ xs) i h =
      put_is _ (scale O c xs) (C.product_in _ _ i h.0)
      ∙ ap₂ (grow R eq) (C.product_is _ _ i h.0) (scale_is c xs i h.1)
      ∙ sym (ap (λ p. number R eq (mean c) ⊠ p) (L.more x xs) ∙ grow_scale R eq _ _ _)

  pub mul_in : (xs ys : List A) → Ok xs → Ok ys → Ok (mul O xs ys)
  mul_in [] ys h k = tt
  mul_in (x ∷ xs) ys h k = add_in _ _ (scale_in x ys h.0 k) (put_in _ _ C.zero_in (mul_in xs ys h.1 k))

  pub mul_is : (xs ys : List A) → Ok xs → Ok ys → m (mul O xs ys) ≡ m xs ⊠ m ys
  mul_is [] ys h k = L.none ∙ sym (ap (λ p. p ⊠ m ys) L.none ∙ zero_mul (poly R eq) _)
  mul_is (x ∷ xs) ys h k =
      add_is (scale O x ys) (put O O.zero (mul O xs ys)) (scale_in x ys h.0 k) (put_in _ _ C.zero_in (mul_in xs ys h.1 k))
      ∙ ap₂ ◌⊞◌ (scale_is x ys h.0 k) (put_is _ (mul O xs ys) C.zero_in ∙ ap₂ (grow R eq) C.zero_is (mul_is xs ys h.1 k))
      ∙ sym (ap (λ p. p ⊠ m ys) (L.more x xs) ∙ grow_mul R eq _ _ _)

  -- sizes and codes
  pub size_is : (xs : List A) → Ok xs → size R (m xs) ≡ length xs
  size_is [] h = ap (size R) L.none ∙ size_of_zero R eq
  size_is (x ∷ []) h = ap (size R) (L.more x []) ∙ grow_size_zero R eq (mean x) (m []) (ap (size R) L.none ∙ size_of_zero R eq) (C.null_not x h.0 h.2)
  size_is (x ∷ y ∷ ys) h = ap (size R) (L.more x (y ∷ ys)) ∙ grow_size_suc R eq (mean x) (m (y ∷ ys)) (length ys) (size_is (y ∷ ys) h.1)

  pub more_nonzero : (x : A) (xs : List A) → Ok (x ∷ xs) → ¬ (m (x ∷ xs) ≡ 𝟎)
  more_nonzero x xs h = let s = size_is (x ∷ xs) h in positive_nonzero R eq (m (x ∷ xs)) (omega arith)

  pub one_list : (xs ys : List A) → Ok xs → Ok ys → m xs ≡ m ys → xs ≡ ys
  one_list [] [] h k e = refl
  one_list [] (y ∷ ys) h k e = absurd (more_nonzero y ys k (sym e ∙ L.none))
  one_list (x ∷ xs) [] h k e = absurd (more_nonzero x xs h (e ∙ L.none))
  one_list (x ∷ xs) (y ∷ ys) h k e =
      let g = grow_same R eq _ _ _ _ (sym (L.more x xs) ∙ e ∙ L.more y ys) in
      ap₂ ◌∷◌ (C.one_code x y h.0 k.0 g.0) (one_list xs ys h.1 k.1 g.1)

  pub unique : (v : List A) → Ok v → (p : Poly R) → m v ≡ p → Unique Ok (λ l. m l ≡ p) v
  unique v h p e = record { inside = h; has = e; only = λ w k f. one_list w v k h (f ∙ sym e) }

  pub lead_in : (xs : List A) → Ok xs → In (lead O xs)
  lead_in [] h = C.zero_in
  lead_in (x ∷ []) h = h.0
  lead_in (x ∷ y ∷ ys) h = lead_in (y ∷ ys) h.1

  -- the lead is the coefficient at the degree
  pub lead_coef : (xs : List A) (n : ℕ) → length xs ≡ suc n → mean (lead O xs) ≡ (m xs).0 n
  lead_coef [] n e = absurd (omega arith)
  lead_coef (x ∷ []) zero e = sym (ap (λ (p : Poly R). p.0 0) (L.more x []) ∙ grow_first R eq _ _)
  lead_coef (x ∷ []) (suc n) e = absurd (omega arith)
  lead_coef (x ∷ y ∷ ys) zero e = absurd (omega arith)
  lead_coef (x ∷ y ∷ ys) (suc n) e = lead_coef (y ∷ ys) n (omega arith) ∙ sym (ap (λ (p : Poly R). p.0 (suc n)) (L.more x (y ∷ ys)) ∙ grow_rest R eq _ _ n)

  pub lead_is : (xs : List A) → Ok xs → mean (lead O xs) ≡ Algebra.lead R (m xs)
  lead_is [] h = C.zero_is ∙ sym (ap (λ (p : Poly R). p.0 (pred (size R (m [])))) L.none ∙ coef_zero R eq _)
  lead_is (x ∷ xs) h = lead_coef (x ∷ xs) (length xs) refl ∙ ap (λ n. (m (x ∷ xs)).0 (pred n)) (sym (size_is (x ∷ xs) h))

  pub lead_nonzero : (y : A) (ys : List A) → Ok (y ∷ ys) → ¬ (mean (lead O (y ∷ ys)) ≡ 𝟘)
  lead_nonzero y [] h = C.null_not y h.0 h.2
  lead_nonzero y (z ∷ zs) h = lead_nonzero z zs h.1

  -- the polynomials again
  pub lists_codes : Codes (lists O) (poly R eq) Ok m
  lists_codes = record {
    zero_in = tt;
    one_in = put_in _ [] C.one_in tt;
    sum_in = add_in;
    difference_in = sub_in;
    product_in = mul_in;
    zero_is = L.none;
    one_is = put_is _ [] C.one_in ∙ ap₂ (grow R eq) C.one_is L.none ∙ grow_number R eq 𝟙 ∙ number_one R eq;
    sum_is = add_is;
    difference_is = sub_is;
    product_is = mul_is;
    null_zero = null_zero;
    null_not = null_not;
    one_code = one_list;
  }
    where
      null_zero : (xs : List A) → Ok xs → none xs ≡ true → m xs ≡ 𝟎
      null_zero [] h e = L.none
      null_zero (x ∷ xs) h e = let z : ◌≡◌ {A = ℕ} 0 1 = cc in absurd (omega arith)

      null_not : (xs : List A) → Ok xs → none xs ≡ false → ¬ (m xs ≡ 𝟎)
      null_not [] h e = let z : ◌≡◌ {A = ℕ} 0 1 = cc in absurd (omega arith)
      null_not (x ∷ xs) h e = more_nonzero x xs h

  -- values
  pub value_in : (xs : List A) (a : A) → All In xs → In a → In (value O xs a)
  value_in [] a h i = C.zero_in
  value_in (x ∷ xs) a h i = C.sum_in _ _ h.0 (C.product_in _ _ i (value_in xs a h.1 i))

  pub value_is : (xs : List A) (a : A) → All In xs → In a → mean (value O xs a) ≡ at R eq (mean a) (m xs)
  value_is [] a h i = C.zero_is ∙ sym (ap (at R eq (mean a)) L.none ∙ at_zero_is R eq (mean a))
  value_is (x ∷ xs) a h i =
      let v = value_in xs a h.1 i in
      C.sum_is _ _ h.0 (C.product_in _ _ i v) ∙ ap (λ z. mean x ⊕ z) (C.product_is _ _ i v ∙ ap (λ z. mean a ⊙ z) (value_is xs a h.1 i)) ∙ sym (ap (at R eq (mean a)) (L.more x xs) ∙ grow_at R eq _ _ _)

  pub each_in : (xs : List A) → Ok xs → All In xs
  each_in [] h = tt
  each_in (x ∷ xs) h = (h.0, each_in xs h.1)
