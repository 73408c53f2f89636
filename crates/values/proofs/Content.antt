-- Content and primitive part of rows over a field, and the gcd of the leading coefficients of two primitive parts.
use Rattle.std.proofs.Common.{◌≡◌, ℕ, suc, List, [], ◌∷◌, sym, refl, ap, ◌∙◌, ap₂}
use Rattle.coefficients.specs.Arithmetic.{Arithmetic, Laws, IsField}
use Rattle.algebra.specs.Ring.{Ring, mul_one, mul_assoc}
use Rattle.algebra.specs.Divisors.{Divides, Invertible, Greatest}
use Rattle.algebra.specs.Lead.{Monic}
use Rattle.algebra.specs.Lists.{All}
use Rattle.algebra.specs.Field.{Field}
use Rattle.algebra.specs.Polynomial.{Poly, poly_discrete}
use Rattle.algebra.specs.Change.{Poly₂, poly₂}
use Rattle.algebra.proofs.Divisors.{divides_zero, divides_eq, divides_trans}
use Rattle.algebra.proofs.Euclid.{size_zero}
use Rattle.algebra.proofs.Degrees.{coef_scale}
use Rattle.bivariate.specs.Degrees.{lead_x}
use Rattle.bivariate.specs.Primitive.{Primitive}
use Rattle.bivariate.proofs.Contents.{contents}
use Rattle.bivariate.proofs.Domain.{left_nonzero, right_nonzero, cancel_y}
use Rattle.polynomials.specs.Elements.{Element, element_discrete, elements, read, polynomial, polynomials}
use Rattle.polynomials.specs.Relations.{MonicGcd}
use Rattle.values.specs.Ops.{codes, lists, lead}
use Rattle.values.specs.Values.{content, primitive, lead_gcd}
use Rattle.values.specs.Meaning.{In, TrimmedY, TrimmedYx, polynomial₂, scalars}
use Rattle.values.specs.Relations.{Unique, Multiple, ContentOf, GcdOfLeads}
use Rattle.values.proofs.Grow.{grow_first, grow_rest}
use Rattle.values.proofs.Lists.{Reading, each_in, one_list, lead_in, lead_is, lead_nonzero, more_nonzero}
use Rattle.values.proofs.Elements.{reading_y, reading_yx}
use Rattle.values.proofs.Gcd.{gcd_is}
use Rattle.values.proofs.Exact.{divided_rows}

module _ {K : Arithmetic} (laws : Laws K) (only : IsField K) where
  abbrev R : Ring (Element K)
  R = elements laws

  abbrev eq : (a b : Element K) → Dec (a ≡ b)
  eq = element_discrete K

  abbrev eq₂ : (p q : Poly R) → Dec (p ≡ q)
  eq₂ = poly_discrete R eq

  open polynomials laws use {zero as 𝟎, mul as ◌⊙◌}
  open poly₂ R eq use {zero as 𝟎₂}

  infixl 70 ◌⊙◌
  abbrev F : Field (Element K)
  F = scalars laws only

  abbrev L : Reading (codes K) R eq (In K) (read laws) (polynomial laws)
  L = reading_y laws

  abbrev L₂ : Reading (lists (codes K)) (polynomials laws) eq₂ (TrimmedY K) (polynomial laws) (polynomial₂ laws)
  L₂ = reading_yx laws

  abbrev m : List ℕ → Poly R
  m xs = polynomial laws xs

  abbrev m₂ : List (List ℕ) → Poly₂ R eq
  m₂ rows = polynomial₂ laws rows

  abbrev Ok : List ℕ → Type 0
  Ok xs = TrimmedY K xs

  abbrev Ok₂ : List (List ℕ) → Type 0
  Ok₂ rows = TrimmedYx K rows

  -- d divides every row
  abbrev DividesRows : Poly R → List (List ℕ) → Type 0
  DividesRows d rows = All (λ r. Divides (polynomials laws) d (m r)) rows

  divides_more : (c d : Poly R) → Divides (polynomials laws) c d → (rows : List (List ℕ)) → DividesRows d rows → DividesRows c rows
  divides_more c d e [] h = tt
  divides_more c d e (r ∷ rows) h = (divides_trans (polynomials laws) e h.0, divides_more c d e rows h.1)

  -- c is the greatest common divisor of the rows
  record Common (rows : List (List ℕ)) (c : List ℕ) : Type 0 where
    inside : Ok c
    divides : DividesRows (m c) rows
    greatest : (d : Poly R) → DividesRows d rows → Divides (polynomials laws) d (m c)

  common : (rows : List (List ℕ)) → All Ok rows → Common rows (content K rows)
  common [] h = record { inside = tt; divides = tt; greatest = λ d u. divides_eq (polynomials laws) (sym L.none) (divides_zero (polynomials laws) d) }
  common (r ∷ rows) h =
      let t = common rows h.1 in
      let g = gcd_is laws only r (content K rows) h.0 t.inside in
      record {
        inside = g.inside;
        divides = (g.has.greatest.left, divides_more _ _ g.has.greatest.right rows t.divides);
        greatest = λ d u. g.has.greatest.greatest d u.0 (t.greatest d u.1);
      }

  -- a divisor of what is not zero is not zero, and so the gcd is monic
  gcd_nonzero : (d p : Poly R) → Divides (polynomials laws) d p → ¬ (p ≡ 𝟎) → ¬ (d ≡ 𝟎)
  gcd_nonzero d p (q, e) n = left_nonzero (polynomials laws) e n

  gcd_monic : (xs ys g : List ℕ) → MonicGcd laws xs ys g → ¬ (m g ≡ 𝟎) → Monic R (m g)
  gcd_monic xs ys g t n = t.normal (λ z. n (size_zero R eq (m g) z))

  content_nonzero : (r : List ℕ) (rows : List (List ℕ)) → Ok₂ (r ∷ rows) → ¬ (m (content K (r ∷ rows)) ≡ 𝟎)
  content_nonzero r [] h = gcd_nonzero _ (m r) (gcd_is laws only r [] h.0 tt).has.greatest.left (L₂.codes.null_not r h.0 h.2)
  content_nonzero r (s ∷ rows) h =
      let t = common (s ∷ rows) (each_in L₂ (s ∷ rows) h.1) in
      gcd_nonzero _ _ (gcd_is laws only r (content K (s ∷ rows)) h.0 t.inside).has.greatest.right (content_nonzero s rows h.1)

  content_monic : (r : List ℕ) (rows : List (List ℕ)) → Ok₂ (r ∷ rows) → Monic R (m (content K (r ∷ rows)))
  content_monic r rows h =
      let t = common rows (each_in L₂ rows h.1) in
      gcd_monic r (content K rows) _ (gcd_is laws only r (content K rows) h.0 t.inside).has (content_nonzero r rows h)

  -- content and primitive part
  -- what divides every coefficient divides every row
  pub coefficients_rows : (d : Poly R) (rows : List (List ℕ)) → ((k : ℕ) → Divides (polynomials laws) d ((m₂ rows).0 k)) → DividesRows d rows
  coefficients_rows d [] h = tt
  coefficients_rows d (r ∷ rows) h = (
    divides_eq (polynomials laws) (ap (λ (p : Poly₂ R eq). p.0 0) (L₂.more r rows) ∙ grow_first (polynomials laws) eq₂ _ _) (h 0),
    coefficients_rows d rows (λ k. divides_eq (polynomials laws) (ap (λ (p : Poly₂ R eq). p.0 (suc k)) (L₂.more r rows) ∙ grow_rest (polynomials laws) eq₂ _ _ k) (h (suc k))),
  )

  module _ (r : List ℕ) (rows : List (List ℕ)) (h : Ok₂ (r ∷ rows)) where
    abbrev c : Poly R
    c = m (content K (r ∷ rows))

    whole : Common (r ∷ rows) (content K (r ∷ rows))
    whole = common (r ∷ rows) (each_in L₂ (r ∷ rows) h)

    part : Ok₂ (primitive K (r ∷ rows)) × Multiple laws (r ∷ rows) (content K (r ∷ rows)) (primitive K (r ∷ rows))
    part = divided_rows laws only (content K (r ∷ rows)) whole.inside (content_nonzero r rows h) (r ∷ rows) (each_in L₂ (r ∷ rows) h) whole.divides

    -- a common divisor of the primitive part, times the content, divides the content
    unit : (d : Poly R) → Divides (polynomials laws) (c ⊙ d) c → Invertible (polynomials laws) d
    unit d (q, e) = (q, cancel_y F (content_nonzero r rows h) (mul_one (polynomials laws) c ∙ e ∙ mul_assoc (polynomials laws) c d q))

    part_primitive : Primitive (polynomials laws) (m₂ (primitive K (r ∷ rows)))
    part_primitive =
        ((contents F).primitive (m₂ (primitive K (r ∷ rows)))).1
        (λ d k. unit d (whole.greatest (c ⊙ d) (coefficients_rows (c ⊙ d) (r ∷ rows) (λ j. let (q, e) = k j in (q, ap (λ (p : Poly₂ R eq). p.0 j) part.1 ∙ coef_scale (polynomials laws) eq₂ c (m₂ (primitive K (r ∷ rows))) j ∙ ap (λ p. c ⊙ p) e ∙ sym (mul_assoc (polynomials laws) c d q))))))

    content_of : ContentOf laws only (r ∷ rows) (content K (r ∷ rows)) (primitive K (r ∷ rows))
    content_of = record { monic = content_monic r rows h; primitive = part_primitive; is = part.1 }

  pub content_is : (a : List (List ℕ)) → Ok₂ a → ¬ (a ≡ []) → Unique (λ (d : List ℕ × List (List ℕ)). Ok d.0 × Ok₂ d.1) (λ d. ContentOf laws only a d.0 d.1) (content K a, primitive K a)
  content_is [] h n = absurd (n refl)
  content_is (r ∷ rows) h n = record {
    inside = ((whole r rows h).inside, (part r rows h).0);
    has = content_of r rows h;
    only = λ d i t.
        let (e, f) = (contents F).unique t (content_of r rows h) in
        ap₂ (λ a b. (a, b)) (one_list L d.0 (content K (r ∷ rows)) i.0 (whole r rows h).inside e) (one_list L₂ d.1 (primitive K (r ∷ rows)) i.1 (part r rows h).0 f);
  }

  -- the leading coefficients
  module _ (r : List ℕ) (rows : List (List ℕ)) (h : Ok₂ (r ∷ rows)) where
    abbrev top : List ℕ
    top = lead (lists (codes K)) (primitive K (r ∷ rows))

    top_in : Ok top
    top_in = lead_in L₂ (primitive K (r ∷ rows)) (part r rows h).0

    top_is : m top ≡ lead_x F (m₂ (primitive K (r ∷ rows)))
    top_is = lead_is L₂ (primitive K (r ∷ rows)) (part r rows h).0

    top_nonzero : ¬ (m top ≡ 𝟎)
    top_nonzero = go (primitive K (r ∷ rows)) (part r rows h).0 (right_nonzero (poly₂ R eq) (part r rows h).1 (more_nonzero L₂ r rows h))
      where
        go : (a : List (List ℕ)) → Ok₂ a → ¬ (m₂ a ≡ 𝟎₂) → ¬ (m (lead (lists (codes K)) a) ≡ 𝟎)
        go [] k n = absurd (n L₂.none)
        go (s ∷ a) k n = lead_nonzero L₂ s a k

  greatest_eq : {p q p' q' g : Poly R} → p ≡ p' → q ≡ q' → Greatest (polynomials laws) p q g → Greatest (polynomials laws) p' q' g
  greatest_eq e f t = record { left = divides_eq (polynomials laws) e t.left; right = divides_eq (polynomials laws) f t.right; greatest = λ x u v. t.greatest x (divides_eq (polynomials laws) (sym e) u) (divides_eq (polynomials laws) (sym f) v) }

  pub lead_gcd_is : (a b : List (List ℕ)) → Ok₂ a → Ok₂ b → ¬ (a ≡ []) → ¬ (b ≡ []) → Unique (TrimmedY K) (GcdOfLeads laws only a b) (lead_gcd K a b)
  lead_gcd_is [] b h k n l = absurd (n refl)
  lead_gcd_is (r ∷ a) [] h k n l = absurd (l refl)
  lead_gcd_is (r ∷ a) (s ∷ b) h k n l =
      let g = gcd_is laws only (top r a h) (top s b k) (top_in r a h) (top_in s b k) in
      let A = content_of r a h in
      let B = content_of s b k in
      record {
        inside = g.inside;
        has = record {
          monic = gcd_monic _ _ _ g.has (gcd_nonzero _ _ g.has.greatest.left (top_nonzero r a h));
          greatest = λ t u. greatest_eq (top_is r a h ∙ ap (lead_x F) ((contents F).unique A t).1) (top_is s b k ∙ ap (lead_x F) ((contents F).unique B u).1) g.has.greatest;
        };
        only = λ d i t. g.only d i (record { greatest = greatest_eq (sym (top_is r a h)) (sym (top_is s b k)) (t.greatest A B); normal = λ z. t.monic });
      }
