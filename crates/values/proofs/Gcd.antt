-- Monic multiples, division with remainder, exact quotients and greatest common divisors of lists of codes over a field.
use Rattle.std.proofs.Common.{◌≡◌, ℕ, zero, suc, ◌<◌, List, [], ◌∷◌, length, sym, refl, ap, ◌∙◌, ap₂, arith}
use Rattle.coefficients.specs.Arithmetic.{Arithmetic, Laws, IsField}
use Rattle.algebra.specs.Ring.{Ring, combine, mul_zero, mul_comm, add_zero}
use Rattle.algebra.specs.Divisors.{Divides, Greatest}
use Rattle.algebra.specs.Field.{Field, field_domain}
use Rattle.algebra.specs.Polynomial.{Poly, size}
use Rattle.algebra.specs.Change.{number, number_one, number_mul}
use Rattle.algebra.specs.Solver.{by_ring, quoting}
use Rattle.algebra.proofs.Divisors.{divides_self, divides_zero, divides_eq, divides_trans, divides_add, divides_rest, divides_mul_left, times_unit}
use Rattle.algebra.proofs.Degrees.{coef_scale, size_scale, size_of_zero}
use Rattle.algebra.proofs.Euclid as Algebra
use Rattle.algebra.proofs.OneUnknown as Theory
use Rattle.polynomials.specs.Elements.{Element, element_discrete, elements, read, polynomial, polynomials}
use Rattle.polynomials.specs.Relations.{Quotient, NormalOf, MonicGcd}
use Rattle.values.specs.Ops.{Ops, codes, lead}
use Rattle.values.specs.Values.{monic, divide, quotient, remainder, euclid, gcd}
use Rattle.values.specs.Meaning.{In, TrimmedY, scalars}
use Rattle.values.specs.Relations.{Unique, Exact}
use Rattle.values.proofs.Lists.{Reading, scale_in, scale_is, size_is, lead_in, lead_coef, lead_nonzero, more_nonzero, one_list}
use Rattle.values.proofs.Elements.{elements_codes, inverse_in, inverse_is, reading_y}
use Rattle.values.proofs.Divide.{Divided, divide_by_is}

module _ {K : Arithmetic} (laws : Laws K) (only : IsField K) where
  abbrev R : Ring (Element K)
  R = elements laws

  abbrev eq : (a b : Element K) → Dec (a ≡ b)
  eq = element_discrete K

  open R use {zero as 𝟘, one as 𝟙, mul as ◌⊙◌}
  open polynomials laws use {zero as 𝟎, one as 𝟏, add as ◌⊞◌, mul as ◌⊠◌}

  infixl 70 ◌⊙◌
  infixl 60 ◌⊞◌
  infixl 70 ◌⊠◌
  abbrev O : Ops ℕ
  O = codes K

  abbrev F : Field (Element K)
  F = scalars laws only

  abbrev L : Reading O R eq (In K) (read laws) (polynomial laws)
  L = reading_y laws

  abbrev m : List ℕ → Poly R
  m xs = polynomial laws xs

  abbrev Ok : List ℕ → Type 0
  Ok xs = TrimmedY K xs

  -- the monic multiple
  none_size : size R (m []) ≡ 0
  none_size = size_is L [] tt

  module _ (x : ℕ) (xs : List ℕ) (h : Ok (x ∷ xs)) where
    l : ℕ
    l = lead O (x ∷ xs)

    i : ℕ
    i = K.inverse (lead O (x ∷ xs))

    l_in : In K l
    unfolding l
    l_in = lead_in L (x ∷ xs) h

    l_nonzero : ¬ (read laws l ≡ 𝟘)
    unfolding l
    l_nonzero = lead_nonzero L x xs h

    i_in : In K i
    unfolding i l
    i_in = inverse_in laws only l l_in l_nonzero

    inverts : read laws l ⊙ read laws i ≡ 𝟙
    unfolding i l
    inverts = inverse_is laws only l l_in l_nonzero

    i_nonzero : ¬ (read laws i ≡ 𝟘)
    i_nonzero z = F.zero≢one (sym (mul_zero R _) ∙ ap (λ a. read laws l ⊙ a) (sym z) ∙ inverts)

    scaled : m (monic K (x ∷ xs)) ≡ number R eq (read laws i) ⊠ m (x ∷ xs)
    unfolding i
    scaled = scale_is L i (x ∷ xs) i_in h

    monic_in : Ok (monic K (x ∷ xs))
    unfolding i
    monic_in = scale_in L i (x ∷ xs) i_in h

    monic_normal : NormalOf laws (x ∷ xs) (monic K (x ∷ xs))
    unfolding l
    monic_normal =
        let unit : 𝟏 ≡ number R eq (read laws i) ⊠ number R eq (read laws l) = sym (number_one R eq) ∙ ap (number R eq) (sym inverts ∙ mul_comm R _ _) ∙ number_mul R eq _ _ in
        let both = times_unit (polynomials laws) (m (x ∷ xs)) (number R eq (read laws l), unit) in
        let e : m (x ∷ xs) ⊠ number R eq (read laws i) ≡ m (monic K (x ∷ xs)) = mul_comm (polynomials laws) _ _ ∙ sym scaled in
        record {
          associates = (divides_eq (polynomials laws) e both.0, let (q, f) = both.1 in (q, f ∙ ap (λ p. p ⊠ q) e));
          normal = λ n. (length xs, ap (size R) scaled ∙ size_scale R eq (field_domain F) (read laws i) (m (x ∷ xs)) i_nonzero (more_nonzero L x xs h) ∙ size_is L (x ∷ xs) h, ap (λ (p : Poly R). p.0 (length xs)) scaled ∙ coef_scale R eq (read laws i) (m (x ∷ xs)) (length xs) ∙ ap (λ a. read laws i ⊙ a) (sym (lead_coef L (x ∷ xs) (length xs) refl)) ∙ mul_comm R _ _ ∙ inverts);
        }

  pub normal : (xs : List ℕ) → Ok xs → Ok (monic K xs) × NormalOf laws xs (monic K xs)
  normal [] h = (tt, record { associates = (divides_self (polynomials laws) _, divides_self (polynomials laws) _); normal = λ n. absurd (n none_size) })
  normal (x ∷ xs) h = (monic_in x xs h, monic_normal x xs h)

  -- the last step of Euclid's algorithm
  zero_gcd : (xs ys d : List ℕ) → m ys ≡ 𝟎 → NormalOf laws xs d → MonicGcd laws xs ys d
  zero_gcd xs ys d z t = record {
    greatest = record { left = t.associates.1; right = divides_eq (polynomials laws) (sym z) (divides_zero (polynomials laws) _); greatest = λ x s u. divides_trans (polynomials laws) s t.associates.0 };
    normal = t.normal;
  }

  pub gcd_one : (xs ys d e : List ℕ) → Ok d → Ok e → MonicGcd laws xs ys d → MonicGcd laws xs ys e → d ≡ e
  gcd_one xs ys d e h k s t = one_list L d e h k ((Theory.gcd F).gcd_unique (m xs) (m ys) (m d) (m e) s.greatest t.greatest s.normal t.normal)

  pub monic_is : (xs : List ℕ) → Ok xs → Unique (TrimmedY K) (NormalOf laws xs) (monic K xs)
  monic_is xs h = let n = normal xs h in record { inside = n.0; has = n.1; only = λ d k t. gcd_one xs [] d (monic K xs) k n.0 (zero_gcd xs [] d L.none t) (zero_gcd xs [] (monic K xs) L.none n.1) }

  -- where quotient and remainder exist, they are found
  divided : (xs : List ℕ) (y : ℕ) (ys : List ℕ) → Ok xs → Ok (y ∷ ys) → (Q t : Poly R) → m xs ≡ Q ⊠ m (y ∷ ys) ⊞ t → size R t < size R (m (y ∷ ys)) → Divided L (field_domain F) Q t (divide K xs (y ∷ ys))
  unfolding i l
  divided xs y ys h k Q t e less = let s = size_is L (y ∷ ys) k in divide_by_is L (field_domain F) y ys k (λ a. K.product a (i y ys k)) (λ a a_in. laws.product_in _ _) part_is xs h Q t e (omega arith)
    where
      law : (c u v : Element K) → u ⊙ v ≡ 𝟙 → u ⊙ c ⊙ v ≡ c
      law c u v e = combine R c e (by_ring R (c ∷ u ∷ v ∷ []) (search quoting depth 30) tt)

      part_is : (a : ℕ) → In K a → (c : Element K) → read laws a ≡ read laws (l y ys k) ⊙ c → read laws (K.product a (i y ys k)) ≡ c
      part_is a a_in c f = (elements_codes laws).product_is a (i y ys k) a_in (i_in y ys k) ∙ ap (λ z. z ⊙ read laws (i y ys k)) f ∙ law c _ _ (inverts y ys k)

  pub divide_is : (xs ys : List ℕ) → Ok xs → Ok ys → ¬ (ys ≡ []) → Unique (λ (d : List ℕ × List ℕ). Ok d.0 × Ok d.1) (λ d. Quotient laws xs ys d.0 d.1) (divide K xs ys)
  divide_is xs [] h k n = absurd (n refl)
  divide_is xs (y ∷ ys) h k n =
      let T = Algebra.quotient F (m xs) (m (y ∷ ys)) (more_nonzero L y ys k) in
      let D = divided xs y ys h k T.quo T.rem T.is T.less in
      record {
        inside = (D.quotient_in, D.remainder_in);
        has = record {
          is = T.is ∙ sym (ap₂ (λ q r. q ⊠ m (y ∷ ys) ⊞ r) D.quotient_is D.remainder_is);
          less = (let s = ap (size R) D.remainder_is in let t = T.less in omega arith);
        };
        only = λ d i q.
            let E = divided xs y ys h k (m d.0) (m d.1) q.is q.less in
            ap₂ (λ a b. (a, b)) (one_list L d.0 _ i.0 E.quotient_in (sym E.quotient_is)) (one_list L d.1 _ i.1 E.remainder_in (sym E.remainder_is));
      }

  pub quotient_in : (xs ys : List ℕ) → Ok xs → Ok ys → ¬ (m ys ≡ 𝟎) → Ok (quotient K xs ys)
  quotient_in xs ys h k n = (divide_is xs ys h k (λ e. n (ap m e ∙ L.none))).inside.0

  -- the quotient by a divisor
  pub exact : (xs ys : List ℕ) → Ok xs → Ok ys → ¬ (m ys ≡ 𝟎) → (Q : Poly R) → m xs ≡ m ys ⊠ Q → Ok (quotient K xs ys) × (m (quotient K xs ys) ≡ Q)
  exact xs [] h k n Q e = absurd (n L.none)
  exact xs (y ∷ ys) h k n Q e =
      let s = size_is L (y ∷ ys) k in
      let z = size_of_zero R eq in
      let D = divided xs y ys h k Q 𝟎 (e ∙ mul_comm (polynomials laws) _ _ ∙ sym (add_zero (polynomials laws) _)) (omega arith) in
      (D.quotient_in, D.quotient_is)

  pub quotient_is : (xs ys : List ℕ) → Ok xs → Ok ys → ¬ (ys ≡ []) → Divides (polynomials laws) (m ys) (m xs) → Unique (TrimmedY K) (Exact laws xs ys) (quotient K xs ys)
  quotient_is xs [] h k n d = absurd (n refl)
  quotient_is xs (y ∷ ys) h k n (Q, e) =
      let D = exact xs (y ∷ ys) h k (more_nonzero L y ys k) Q e in
      record {
        inside = D.0;
        has = e ∙ ap (λ q. m (y ∷ ys) ⊠ q) (sym D.1);
        only = λ q i f. one_list L q _ i D.0 (sym (exact xs (y ∷ ys) h k (more_nonzero L y ys k) (m q) f).1);
      }

  -- the greatest common divisor
  greatest_step : (p q s r g : Poly R) → p ≡ s ⊠ q ⊞ r → Greatest (polynomials laws) q r g → Greatest (polynomials laws) p q g
  greatest_step p q s r g e t = record {
    left = divides_eq (polynomials laws) (sym e) (divides_add (polynomials laws) (divides_mul_left (polynomials laws) s t.left) t.right);
    right = t.left;
    greatest = λ x u v. t.greatest x v (divides_rest (polynomials laws) (divides_eq (polynomials laws) e u) (divides_mul_left (polynomials laws) s v));
  }

  euclid_is : (n : ℕ) (xs ys : List ℕ) → Ok xs → Ok ys → length ys < n → Ok (euclid K n xs ys) × MonicGcd laws xs ys (euclid K n xs ys)
  euclid_is zero xs ys h k l = absurd (omega arith)
  euclid_is (suc n) xs [] h k l = let t = normal xs h in (t.0, zero_gcd xs [] _ L.none t.1)
  euclid_is (suc n) xs (y ∷ ys) h k l =
      let D = divide_is xs (y ∷ ys) h k (λ e. let z : ◌≡◌ {A = ℕ} 0 1 = cc in omega arith) in
      let q = D.has in
      let s = q.less in
      let u = size_is L (y ∷ ys) k in
      let v = size_is L (remainder K xs (y ∷ ys)) D.inside.1 in
      let t = euclid_is n (y ∷ ys) (remainder K xs (y ∷ ys)) k D.inside.1 (omega arith) in
      (t.0, record { greatest = greatest_step _ _ _ _ _ q.is t.1.greatest; normal = t.1.normal })

  pub gcd_is : (xs ys : List ℕ) → Ok xs → Ok ys → Unique (TrimmedY K) (MonicGcd laws xs ys) (gcd K xs ys)
  gcd_is xs ys h k = let t = euclid_is (suc (length ys)) xs ys h k (omega arith) in record { inside = t.0; has = t.1; only = λ d i s. gcd_one xs ys d _ i t.0 s t.1 }
