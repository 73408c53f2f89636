-- Exact quotients of rows over a field: by a polynomial in y, and by rows.
use Rattle.std.proofs.Common.{◌≡◌, ℕ, List, [], ◌∷◌, sym, refl, ap, ◌∙◌, ap₂, arith}
use Rattle.coefficients.specs.Arithmetic.{Arithmetic, Laws, IsField}
use Rattle.algebra.specs.Ring.{Ring, mul_zero, mul_comm, add_zero}
use Rattle.algebra.specs.Divisors.{Divides}
use Rattle.algebra.specs.Lists.{All}
use Rattle.algebra.specs.Field.{Field}
use Rattle.algebra.specs.Polynomial.{Poly, poly_discrete}
use Rattle.algebra.specs.Change.{Poly₂, poly₂, number}
use Rattle.algebra.proofs.Degrees.{size_of_zero}
use Rattle.bivariate.proofs.Contents.{lift_nonzero}
use Rattle.bivariate.proofs.Domain.{domain_y, cancel_yx}
use Rattle.polynomials.specs.Elements.{Element, element_discrete, elements, read, polynomial, polynomials}
use Rattle.values.specs.Ops.{codes, lists, lead}
use Rattle.values.specs.Values.{quotient, over, quotient_x}
use Rattle.values.specs.Meaning.{In, TrimmedY, TrimmedYx, polynomial₂, scalars}
use Rattle.values.specs.Relations.{Unique, Multiple, Factors}
use Rattle.values.proofs.Grow.{grow, grow_scale}
use Rattle.values.proofs.Lists.{Reading, put_in, put_is, each_in, one_list, lead_in, lead_nonzero, more_nonzero}
use Rattle.values.proofs.Elements.{reading_y, reading_yx}
use Rattle.values.proofs.Divide.{divide_by_is}
use Rattle.values.proofs.Gcd.{quotient_in, exact}

module _ {K : Arithmetic} (laws : Laws K) (only : IsField K) where
  abbrev R : Ring (Element K)
  R = elements laws

  abbrev eq : (a b : Element K) → Dec (a ≡ b)
  eq = element_discrete K

  abbrev eq₂ : (p q : Poly R) → Dec (p ≡ q)
  eq₂ = poly_discrete R eq

  open polynomials laws use {zero as 𝟎, mul as ◌⊙◌}
  open poly₂ R eq use {zero as 𝟎₂, mul as ◌⊠◌}

  infixl 70 ◌⊙◌
  infixl 70 ◌⊠◌
  abbrev F : Field (Element K)
  F = scalars laws only

  abbrev L : Reading (codes K) R eq (In K) (read laws) (polynomial laws)
  L = reading_y laws

  abbrev L₂ : Reading (lists (codes K)) (polynomials laws) eq₂ (TrimmedY K) (polynomial laws) (polynomial₂ laws)
  L₂ = reading_yx laws

  abbrev m : List ℕ → Poly R
  m xs = polynomial laws xs

  abbrev m₂ : List (List ℕ) → Poly₂ R eq
  m₂ rows = polynomial₂ laws rows

  abbrev Ok : List ℕ → Type 0
  Ok xs = TrimmedY K xs

  abbrev Ok₂ : List (List ℕ) → Type 0
  Ok₂ rows = TrimmedYx K rows

  -- every row divided by c
  module _ (c : List ℕ) (c_in : Ok c) (nonzero : ¬ (m c ≡ 𝟎)) where
    pub divided_rows : (rows : List (List ℕ)) → All Ok rows → All (λ r. Divides (polynomials laws) (m c) (m r)) rows → Ok₂ (over K c rows) × Multiple laws rows c (over K c rows)
    divided_rows [] h d = (tt, L₂.none ∙ sym (ap (λ p. number (polynomials laws) eq₂ (m c) ⊠ p) L₂.none ∙ mul_zero (poly₂ R eq) _))
    divided_rows (r ∷ rows) h d =
        let (Q, e) = d.0 in
        let q = exact laws only r c h.0 c_in nonzero Q e in
        let t = divided_rows rows h.1 d.1 in (
          put_in L₂ _ (over K c rows) q.0 t.0,
          L₂.more r rows ∙ ap₂ (grow (polynomials laws) eq₂) (e ∙ ap (λ p. m c ⊙ p) (sym q.1)) t.1
              ∙ sym (ap (λ p. number (polynomials laws) eq₂ (m c) ⊠ p) (put_is L₂ _ (over K c rows) q.0) ∙ grow_scale (polynomials laws) eq₂ _ _ _),
        )

  pub over_is : (c : List ℕ) (a : List (List ℕ)) → Ok c → Ok₂ a → ¬ (c ≡ []) → All (λ r. Divides (polynomials laws) (m c) (m r)) a → Unique (TrimmedYx K) (Multiple laws a c) (over K c a)
  over_is [] a h k n d = absurd (n refl)
  over_is (x ∷ xs) a h k n d =
      let nonzero = more_nonzero L x xs h in
      let t = divided_rows (x ∷ xs) h nonzero a (each_in L₂ a k) d in
      record { inside = t.0; has = t.1; only = λ b i e. one_list L₂ b _ i t.0 (cancel_yx F (lift_nonzero F (m (x ∷ xs)) nonzero) (sym e ∙ t.1)) }

  -- rows by rows
  cofactor : (a : List (List ℕ)) (s : List ℕ) (b : List (List ℕ)) → Ok₂ a → Ok₂ (s ∷ b) → (Q : Poly₂ R eq) → m₂ a ≡ m₂ (s ∷ b) ⊠ Q → Ok₂ (quotient_x K a (s ∷ b)) × (m₂ (quotient_x K a (s ∷ b)) ≡ Q)
  cofactor a s b h k Q e =
      let l = lead (lists (codes K)) (s ∷ b) in
      let l_in = lead_in L₂ (s ∷ b) k in
      let nonzero = lead_nonzero L₂ s b k in
      let z = size_of_zero (polynomials laws) eq₂ in
      let D = divide_by_is L₂ (domain_y F) s b k (λ c. quotient K c l) (λ c i. quotient_in laws only c l i l_in nonzero) (λ c i q f. (exact laws only c l i l_in nonzero q f).1) a h Q 𝟎₂ (e ∙ mul_comm (poly₂ R eq) _ _ ∙ sym (add_zero (poly₂ R eq) _)) (omega arith) in
      (D.quotient_in, D.quotient_is)

  pub quotient_x_is : (a b : List (List ℕ)) → Ok₂ a → Ok₂ b → ¬ (b ≡ []) → Divides (poly₂ R eq) (m₂ b) (m₂ a) → Unique (TrimmedYx K) (Factors laws a b) (quotient_x K a b)
  quotient_x_is a [] h k n d = absurd (n refl)
  quotient_x_is a (s ∷ b) h k n (Q, e) =
      let t = cofactor a s b h k Q e in
      record { inside = t.0; has = e ∙ ap (λ q. m₂ (s ∷ b) ⊠ q) (sym t.1); only = λ q i f. one_list L₂ q _ i t.0 (sym (cofactor a s b h k (m₂ q) f).1) }
