-- 16 rows of elements: where they have a relation, the trimmed rows are the values.
use Rattle.std.proofs.Common.{◌≡◌, ℕ, zero, suc, ◌*◌, ◌<◌, ◌≤◌, ◌⊎◌, List, [], ◌∷◌, length, get_or, take, drop, sym, refl, ap, ◌∙◌, subst, ap₂, inl, inr, mul-zero, arith}
use Rattle.std.proofs.lemmas.Bool.{cases_lt}
use Rattle.coefficients.specs.Arithmetic.{Arithmetic, Laws, IsField}
use Rattle.algebra.specs.Ring.{Ring}
use Rattle.algebra.specs.Divisors.{Greatest}
use Rattle.algebra.specs.Lead as Algebra
use Rattle.algebra.specs.Lead.{Monic, Normal}
use Rattle.algebra.specs.Lists.{Distinct}
use Rattle.algebra.specs.Polynomial.{Poly, poly_discrete, size}
use Rattle.algebra.specs.Change.{Poly₂, poly₂, number, image as image-hom}
use Rattle.algebra.proofs.Degrees.{coef_scale, size_of_zero}
use Rattle.bivariate.specs.Primitive.{Primitive}
use Rattle.polynomials.specs.Rows.{Inside, cut_row}
use Rattle.polynomials.specs.Elements.{Element, element_discrete, elements, read, polynomial, polynomials, polynomial_xy}
use Rattle.tables.specs.Content.{Parted, Multiple as Evenly}
use Rattle.tables.specs.Lead.{LeadOf, LeadGcd}
use Rattle.tables.specs.Scale.{Times}
use Rattle.tables.specs.Exact.{MultipleOf}
use Rattle.tables.specs.Join.{Joined}
use Rattle.tables.proofs.OverElements as OverElements
use Rattle.tables.proofs.Sizes.{row_inside, of_rows, of_past}
use Rattle.values.specs.Ops.{codes, lists, trim, lead}
use Rattle.values.specs.Values.{times, gcd, content, primitive, over, quotient_x, lead_gcd, join}
use Rattle.values.specs.Tables.{split, rows_of}
use Rattle.values.specs.Meaning.{In, TrimmedY, TrimmedYx, polynomial₂}
use Rattle.values.specs.Relations.{Pairwise, RowImage}
use Rattle.values.specs.RowTheorems.{Sixteen}
use Rattle.values.proofs.Lists.{Reading, lead_in, lead_is, one_list}
use Rattle.values.proofs.Elements.{reading_y, reading_yx, inside_all}
use Rattle.values.proofs.Images.{times_is}
use Rattle.values.proofs.Gcd.{gcd_is}
use Rattle.values.proofs.Exact.{over_is, quotient_x_is}
use Rattle.values.proofs.Content.{coefficients_rows, content_is}
use Rattle.values.proofs.Join.{join_is}
use Rattle.values.proofs.Tables.{next_row, split_in, rows_of_are}
use Rattle.values.proofs.Rows.{t_in, t_is}

module _ {K : Arithmetic} (laws : Laws K) where
  abbrev R : Ring (Element K)
  R = elements laws

  abbrev eq : (a b : Element K) → Dec (a ≡ b)
  eq = element_discrete K

  abbrev eq₂ : (p q : Poly R) → Dec (p ≡ q)
  eq₂ = poly_discrete R eq

  open polynomials laws use {zero as 𝟎, mul as ◌⊙◌}
  open poly₂ R eq use {zero as 𝟎₂, mul as ◌⊠◌}

  infixl 70 ◌⊙◌
  infixl 70 ◌⊠◌
  abbrev L : Reading (codes K) R eq (In K) (read laws) (polynomial laws)
  L = reading_y laws

  abbrev L₂ : Reading (lists (codes K)) (polynomials laws) eq₂ (TrimmedY K) (polynomial laws) (polynomial₂ laws)
  L₂ = reading_yx laws

  abbrev m : List ℕ → Poly R
  m xs = polynomial laws xs

  abbrev m₂ : List (List ℕ) → Poly₂ R eq
  m₂ rows = polynomial₂ laws rows

  -- a polynomial in y, as one in x and y
  abbrev lift : Poly R → Poly₂ R eq
  lift c = number (polynomials laws) eq₂ c

  abbrev trimmed : List ℕ → List ℕ
  trimmed xs = trim (codes K) xs

  module _ (w : ℕ) where
    abbrev T : List ℕ → Poly₂ R eq
    T t = polynomial_xy laws w t

    rows_in : (t : List ℕ) → Sixteen laws w t → TrimmedYx K (rows_of K w t)
    rows_in t h = (rows_of_are laws w t h).inside

    rows_is : (t : List ℕ) → Sixteen laws w t → m₂ (rows_of K w t) ≡ T t
    rows_is t h = (rows_of_are laws w t h).has

    some_rows : (t : List ℕ) → Sixteen laws w t → ¬ (T t ≡ 𝟎₂) → ¬ (rows_of K w t ≡ [])
    some_rows t h n e = n (sym (rows_is t h) ∙ ap m₂ e ∙ L₂.none)

    lead_rows_is : (t : List ℕ) → Sixteen laws w t → m (lead (lists (codes K)) (rows_of K w t)) ≡ Algebra.lead (polynomials laws) (T t)
    lead_rows_is t h = lead_is L₂ (rows_of K w t) (rows_in t h) ∙ ap (Algebra.lead (polynomials laws)) (rows_is t h)

    pub lead_rows : (t l : List ℕ) → Sixteen laws w t → Inside K l → LeadOf laws w t l → trimmed l ≡ lead (lists (codes K)) (rows_of K w t)
    lead_rows t l ht hl e = one_list L (trimmed l) _ (t_in laws l hl) (lead_in L₂ (rows_of K w t) (rows_in t ht)) (t_is laws l hl ∙ e ∙ sym (lead_rows_is t ht))

    pub times_rows : (t g p : List ℕ) → Sixteen laws w t → Inside K g → Sixteen laws w p → Times laws w t g p → rows_of K w p ≡ times K (trimmed g) (rows_of K w t)
    times_rows t g p ht hg hp e =
        (times_is laws (trimmed g) (rows_of K w t) (t_in laws g hg) (rows_in t ht)).only (rows_of K w p) (rows_in p hp)
        (rows_is p hp ∙ e ∙ sym (ap₂ (λ c P. lift c ⊠ P) (t_is laws g hg) (rows_is t ht)))

    module _ (only : IsField K) where
      pub content_rows : (t d p : List ℕ) → Sixteen laws w t → Inside K d → Sixteen laws w p → Parted laws w t d p → (trimmed d ≡ content K (rows_of K w t)) × (rows_of K w p ≡ primitive K (rows_of K w t))
      content_rows t d p ht hd hp u =
          let (monic, is_primitive, is) = OverElements.content_is laws only _ _ _ (u.content only) in
          let same = (content_is laws only (rows_of K w t) (rows_in t ht) (some_rows t ht u.nonzero)).only (trimmed d, rows_of K w p) (t_in laws d hd, rows_in p hp)
          (record {
            monic = subst (Monic R) (sym (t_is laws d hd)) monic;
            primitive = subst (Primitive (polynomials laws)) (sym (rows_is p hp)) is_primitive;
            is = rows_is t ht ∙ is ∙ sym (ap₂ (λ c P. lift c ⊠ P) (t_is laws d hd) (rows_is p hp));
          }) in
          (ap (λ (z : List ℕ × List (List ℕ)). z.0) same, ap (λ (z : List ℕ × List (List ℕ)). z.1) same)

      -- the leading coefficients of a and b, with their gcd g
      gcd_of_leads : (a b g : List ℕ) → Sixteen laws w a → Sixteen laws w b → Inside K g → LeadGcd laws w a b g → trimmed g ≡ gcd K (lead (lists (codes K)) (rows_of K w a)) (lead (lists (codes K)) (rows_of K w b))
      gcd_of_leads a b g ha hb hg u =
          let x = lead (lists (codes K)) (rows_of K w a) in
          let y = lead (lists (codes K)) (rows_of K w b) in
          (gcd_is laws only x y (lead_in L₂ (rows_of K w a) (rows_in a ha)) (lead_in L₂ (rows_of K w b) (rows_in b hb))).only (trimmed g) (t_in laws g hg)
          (record {
            greatest = subst (λ (p : Poly R). Greatest (polynomials laws) p (m y) (m (trimmed g))) (sym (lead_rows_is a ha))
                (subst (λ (p : Poly R). Greatest (polynomials laws) (Algebra.lead (polynomials laws) (T a)) p (m (trimmed g))) (sym (lead_rows_is b hb))
                (subst (Greatest (polynomials laws) (Algebra.lead (polynomials laws) (T a)) (Algebra.lead (polynomials laws) (T b))) (sym (t_is laws g hg)) u.greatest));
            normal = subst (Normal R) (sym (t_is laws g hg)) u.normal;
          })

      pub lead_gcd_rows : (s t c d a b g : List ℕ) → Sixteen laws w s → Sixteen laws w t → Inside K c → Inside K d → Sixteen laws w a → Sixteen laws w b → Inside K g → Parted laws w s c a → Parted laws w t d b → LeadGcd laws w a b g → trimmed g ≡ lead_gcd K (rows_of K w s) (rows_of K w t)
      lead_gcd_rows s t c d a b g hs ht hc hd ha hb hg u v x =
          gcd_of_leads a b g ha hb hg x ∙ ap₂ (λ P Q. gcd K (lead (lists (codes K)) P) (lead (lists (codes K)) Q)) (content_rows s c a hs hc ha u).1 (content_rows t d b ht hd hb v).1

      pub over_rows : (t g q : List ℕ) → Sixteen laws w t → Inside K g → Sixteen laws w q → Evenly laws w t g q → rows_of K w q ≡ over K (trimmed g) (rows_of K w t)
      over_rows t g q ht hg hq u =
          let is : m₂ (rows_of K w t) ≡ lift (m (trimmed g)) ⊠ m₂ (rows_of K w q) = rows_is t ht ∙ u.is ∙ sym (ap₂ (λ c P. lift c ⊠ P) (t_is laws g hg) (rows_is q hq)) in
          (over_is laws only (trimmed g) (rows_of K w t) (t_in laws g hg) (rows_in t ht) (λ e. u.nonzero (sym (t_is laws g hg) ∙ ap m e ∙ L.none))
          (coefficients_rows laws only (m (trimmed g)) (rows_of K w t) (λ k. ((m₂ (rows_of K w q)).0 k, ap (λ (P : Poly₂ R eq). P.0 k) is ∙ coef_scale (polynomials laws) eq₂ _ _ k)))
          ).only (rows_of K w q) (rows_in q hq) is

      pub quotient_rows : (t b q : List ℕ) → Sixteen laws w t → Sixteen laws w b → Sixteen laws w q → MultipleOf laws w t b q → rows_of K w q ≡ quotient_x K (rows_of K w t) (rows_of K w b)
      quotient_rows t b q ht hb hq u =
          let is : m₂ (rows_of K w t) ≡ m₂ (rows_of K w b) ⊠ m₂ (rows_of K w q) = rows_is t ht ∙ u.is ∙ sym (ap₂ ◌⊠◌ (rows_is b hb) (rows_is q hq)) in
          (quotient_x_is laws only (rows_of K w t) (rows_of K w b) (rows_in t ht) (rows_in b hb) (some_rows b hb u.nonzero) (m₂ (rows_of K w q), is)).only (rows_of K w q) (rows_in q hq) is

  -- the rows at the points, one by one
  row_by_row : (P : ℕ → List ℕ → Type 0) (w : ℕ) (ps vs : List ℕ) → ((k : ℕ) → k < length ps → P (get_or ps k 0) (trimmed (cut_row w vs k))) → Pairwise P ps (split K w (length ps) vs)
  row_by_row P w [] vs h = tt
  row_by_row P w (p ∷ ps) vs h = (
    subst (λ (n : ℕ). P p (trimmed (take w (drop n vs)))) (mul-zero w) (h 0 (omega arith)),
    row_by_row P w ps (drop w vs) (λ k lt. subst (λ (l : List ℕ). P (get_or ps k 0) (trimmed l)) (sym (next_row w vs k)) (h (suc k) (omega arith))),
  )

  split_length : (w n : ℕ) (t : List ℕ) → length (split K w n t) ≡ n
  split_length w zero t = refl
  split_length w (suc n) t = ap suc (split_length w n (drop w t))

  pub joined_rows : (only : IsField K) (ps vs t : List ℕ) → Inside K ps → Distinct ps → length vs ≡ 16 * length ps → Inside K vs → Sixteen laws 32 t → Joined laws ps vs t → rows_of K 32 t ≡ join K ps (split K 16 (length ps) vs)
  joined_rows only ps vs t hp d long hv ht u =
      (join_is laws only ps (split K 16 (length ps) vs) (sym (split_length 16 (length ps) vs)) (inside_all K ps hp) (split_in laws 16 (length ps) vs (inside_all K vs hv)) d).only (rows_of K 32 t) (rows_in 32 t ht)
      (record {
        small = λ k. small k (cases_lt k 16);
        meets = row_by_row (RowImage laws (rows_of K 32 t)) 16 ps vs (λ k lt. ap (image-hom R eq (read laws (get_or ps k 0))).map (rows_is 32 t ht) ∙ u.meets k lt ∙ sym (t_is laws (cut_row 16 vs k) (row_inside K 16 vs k hv)));
      })
    where
      small : (k : ℕ) → (k < 16) ⊎ (16 ≤ k) → size R ((m₂ (rows_of K 32 t)).0 k) ≤ length ps
      small k (inl lt) =
          let e = ap (λ (P : Poly₂ R eq). size R (P.0 k)) (rows_is 32 t ht) ∙ ap (size R) (of_rows laws 32 t k) in
          let s = u.small k lt in
          omega arith
      small k (inr le) =
          let e = ap (λ (P : Poly₂ R eq). size R (P.0 k)) (rows_is 32 t ht) ∙ ap (size R) (of_past laws 32 t k ht.0 le) ∙ size_of_zero R eq in
          omega arith
