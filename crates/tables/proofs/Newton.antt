-- Newton's interpolation: with each point one more value of every row is right.
use Rattle.std.proofs.Common.{◌≡◌, ℕ, suc, ◌+◌, ◌*◌, ◌<◌, ◌≤◌, true, ◌≢◌, ◌⊎◌, List, length, get_or, set, Ok, Err, sym, ap, ◌∙◌, subst, inl, inr, arith, length-set, get_or-set_other, get_or-set_same}
use Rattle.std.proofs.lemmas.Bool.{cases_eq}
use Rattle.coefficients.specs.Arithmetic.{Arithmetic, Laws, IsField}
use Rattle.coefficients.specs.declared.kind.ReciprocalFault.{ReciprocalFault}
use Rattle.algebra.specs.Ring.{add_zero, zero_add, mul_zero}
use Rattle.algebra.specs.Bounded.{Below, zero_below, below_more}
use Rattle.algebra.specs.Polynomial.{Poly, size, size_least, of_zero, at}
use Rattle.algebra.specs.Change.{number, number_one, linear}
use Rattle.algebra.specs.Lists.{Distinct}
use Rattle.algebra.proofs.Degrees.{below_product, below_difference, number_below}
use Rattle.polynomials.specs.Elements.{Element, element_same, element_discrete, elements, polynomial, polynomials}
use Rattle.polynomials.specs.Rows.{Inside, cut_row}
use Rattle.polynomials.specs.Relations.{Value}
use Rattle.tables.specs.Join.{Joining, Corrected, Correction, Grows}
use Rattle.polynomials.proofs.Terms.{term}
use Rattle.polynomials.proofs.Meaning.{code_zero, placed, cleared}
use Rattle.polynomials.proofs.Images.{image_is}
use Rattle.tables.proofs.CutRows.{cut_row_length, cut_row_code, cut_row_inside}
use Rattle.tables.proofs.Correcting.{value_less, term_number}
use Rattle.tables.proofs.Points.{point, product, product_more, product_below, product_root, next_nonzero}

-- the polynomial of the row r has degree below k, and at each of the first k points the i-th code of vs there for its value
pub record Meets {K : Arithmetic} (laws : Laws K) (ps vs : List ℕ) (k i : ℕ) (r : List ℕ) : Type 0 where
  pub small : Below (elements laws) k (polynomial laws r).0
  pub value : (j : ℕ) → j < k → Value laws r (get_or ps j 0) (get_or vs (16 * j + i) 0)

-- after k points: m is the product of y − α over them, and each row of t meets the codes there
pub record JoinedTo (K : Arithmetic) (ps vs m t : List ℕ) (k : ℕ) : Type 0 where
  pub long : length m ≡ 32
  pub inside_m : Inside K ps → Inside K m
  pub inside_t : Inside K ps → Inside K vs → Inside K t
  pub master : Inside K ps → (laws : Laws K) → polynomial laws m ≡ product laws ps k
  pub rows : Inside K ps → Inside K vs → (laws : Laws K) (i : ℕ) → i < 16 → Meets laws ps vs k i (cut_row 32 t i)

module _ {K : Arithmetic} (laws : Laws K) (ps vs : List ℕ) where
  -- one more point
  module _ (k i : ℕ) (m f g : List ℕ) (v : ℕ) (master : polynomial laws m ≡ product laws ps k) (step : Corrected laws m f (get_or ps k 0) v g) (v_is : v ≡ get_or vs (16 * k + i) 0) (h : Meets laws ps vs k i f) where
    less : polynomial laws g ≡ (polynomials laws).add (polynomial laws f) ((polynomials laws).neg ((polynomials laws).mul (number (elements laws) (element_discrete K) step.by) (product laws ps k)))
    less = subst (λ (p : Poly (elements laws)). polynomial laws g ≡ (polynomials laws).add (polynomial laws f) ((polynomials laws).neg ((polynomials laws).mul (number (elements laws) (element_discrete K) step.by) p))) master step.is

    meets_small : Below (elements laws) (k + 1) (polynomial laws g).0
    meets_small =
        rw less
        (below_difference (elements laws) (element_discrete K) (k + 1) _ _
        (below_more (elements laws) k (k + 1) _ (omega arith) h.small)
        (below_product (elements laws) (element_discrete K) 1 (suc k) (k + 1) _ _ (number_below (elements laws) (element_discrete K) step.by) (product_below laws ps k) (omega arith)))

    meets_value : (j : ℕ) → (j ≡ k) ⊎ (j ≢ k) → j ≤ k → Value laws g (get_or ps j 0) (get_or vs (16 * j + i) 0)
    meets_value j (inl e) le = rw e (step.value ∙ v_is)
    meets_value j (inr ne) le = ap (λ (a : Element K). a.0) kept ∙ h.value j (omega arith)
      where
        value : Poly (elements laws) → Element K
        value = at (elements laws) (element_discrete K) (point laws ps j)

        kept : value (polynomial laws g) ≡ value (polynomial laws f)
        kept =
            sym (ap ((elements laws).add (value (polynomial laws g))) (ap ((elements laws).mul step.by) (product_root laws ps k j (omega arith)) ∙ mul_zero (elements laws) _) ∙ add_zero (elements laws) _)
            ∙ value_less laws step.by (point laws ps j) (polynomial laws f) (polynomial laws g) (product laws ps k) less

    pub meets_more : Meets laws ps vs (k + 1) i g
    meets_more = record { small = meets_small; value = λ j lt. meets_value j (cases_eq j k) (omega arith) }

  -- the start
  one_is : (m : List ℕ) → 0 < length m → ((j : ℕ) → j < length m → get_or m j 0 ≡ K.zero) → polynomial laws (set m 0 K.one) ≡ product laws ps 0
  unfolding product elements
  one_is m some z =
      placed laws m 0 K.one laws.one_in some (z 0 some)
      ∙ ap (λ p. (polynomials laws).add p (term (elements laws) (element_discrete K) (K.one, laws.one_in) 0)) (cleared laws m z)
      ∙ zero_add (polynomials laws) _
      ∙ term_number laws (K.one, laws.one_in)
      ∙ number_one (elements laws) (element_discrete K)

  pub meets_none : (i : ℕ) (r : List ℕ) → ((j : ℕ) → j < length r → get_or r j 0 ≡ K.zero) → Meets laws ps vs 0 i r
  meets_none i r z = record { small = rw (cleared laws r z, of_zero (elements laws) (element_discrete K)) (zero_below (elements laws) 0); value = λ j lt. absurd (omega arith) }

module _ {K : Arithmetic} (laws : Laws K) (ps vs : List ℕ) where
  pub joined_none : (m t : List ℕ) → length m ≡ 32 → length t ≡ 512 → ((j : ℕ) → j < length m → get_or m j 0 ≡ K.zero) → ((j : ℕ) → j < length t → get_or t j 0 ≡ K.zero) → JoinedTo K ps vs (set m 0 K.one) t 0
  joined_none m t lm lt zm zt = record {
    long = length-set m 0 K.one ∙ lm;
    inside_m = λ hp j l. first j (cases_eq j 0) (rw (length-set m 0 K.one) at l);
    inside_t = λ hp hv j l. ap K.element (zt j l) ∙ laws.zero_in;
    master = λ hp lw. one_is lw ps vs m (omega arith) zm;
    rows = λ hp hv lw i l. meets_none lw ps vs i (cut_row 32 t i) (λ j b. row i j l b);
  }
    where
      first : (j : ℕ) → (j ≡ 0) ⊎ (j ≢ 0) → j < length m → K.element (get_or (set m 0 K.one) j 0) ≡ true
      first j (inl e) l = rw e (ap K.element (get_or-set_same m 0 K.one 0 (omega arith)) ∙ laws.one_in)
      first j (inr ne) l = ap K.element (get_or-set_other m 0 j K.one 0 ne ∙ zm j l) ∙ laws.zero_in

      row : (i j : ℕ) → i < 16 → j < length (cut_row 32 t i) → get_or (cut_row 32 t i) j 0 ≡ K.zero
      row i j l b =
          let long = cut_row_length 32 t i (omega arith) in
          cut_row_code 32 t i j (omega arith) ∙ zt (32 * i + j) (omega arith)

  module _ (few : length ps ≤ 31) (each : length vs ≡ 16 * length ps) where
    pub joined_more : (m m' t t' : List ℕ) (k : ℕ) → k < length ps → length m' ≡ 32 → Correction K m (get_or ps k 0) (cut_row 16 vs k) t t' (Ok tt) → Grows K m (get_or ps k 0) m' → JoinedTo K ps vs m t k → JoinedTo K ps vs m' t' (k + 1)
    joined_more m m' t t' k lt lm row grow h = record {
      long = lm;
      inside_m = λ hp. (grow (h.inside_m hp) (hp k lt)).0;
      inside_t = λ hp hv. (told hp hv).0;
      master = λ hp lw. (grow (h.inside_m hp) (hp k lt)).1 lw (room hp lw) ∙ ap ((polynomials lw).mul (linear (elements lw) (element_discrete K) (point lw ps k))) (h.master hp lw) ∙ sym (product_more lw ps k);
      rows = λ hp hv lw i l. meets_more lw ps vs k i m (cut_row 32 t i) (cut_row 32 t' i) _ (h.master hp lw) ((told hp hv).1 lw i l) (cut_row_code 16 vs k i l) (h.rows hp hv lw i l);
    }
      where
        told : Inside K ps → Inside K vs → Inside K t' × ((laws : Laws K) (i : ℕ) → i < 16 → Corrected laws m (cut_row 32 t i) (get_or ps k 0) (get_or (cut_row 16 vs k) i 0) (cut_row 32 t' i))
        told hp hv = row (h.inside_m hp) (hp k lt) (cut_row_inside K 16 vs k hv) (h.inside_t hp hv)

        room : Inside K ps → (lw : Laws K) → size (elements lw) (polynomial lw m) < length m
        room hp lw =
            let long = h.long in
            let small : size (elements lw) (polynomial lw m) ≤ suc k = size_least (elements lw) (polynomial lw m) (suc k) (rw (h.master hp lw) (product_below lw ps k)) in
            omega arith

    -- all points
    pub joined_all : (m t : List ℕ) (k : ℕ) → k ≡ length ps → length t ≡ 512 → JoinedTo K ps vs m t k → Joining K ps vs t (Ok tt)
    joined_all m t k all lt h hp hv = (
      h.inside_t hp hv,
      λ lw. record {
        small = λ i l. size_least (elements lw) (polynomial lw (cut_row 32 t i)) (length ps) (subst (λ (n : ℕ). Below (elements lw) n (polynomial lw (cut_row 32 t i)).0) all (h.rows hp hv lw i l).small);
        meets = λ j l. image_is lw 32 t (get_or ps j 0) (cut_row 16 vs j) lt (cut_row_length 16 vs j (omega arith)) (cut_row_inside K 16 vs j hv) (λ i b. (h.rows hp hv lw i b).value j (omega arith) ∙ sym (cut_row_code 16 vs j i b));
      },
    )

    -- no reciprocal: over a field the points are not different
    pub joined_refused : (m t t' : List ℕ) (k : ℕ) (e : ReciprocalFault) → k < length ps → Correction K m (get_or ps k 0) (cut_row 16 vs k) t t' (Err e) → JoinedTo K ps vs m t k → Joining K ps vs t' (Err e)
    joined_refused m t t' k e lt (same, told) h hp hv =
        let (c, is, inside, none, value) = told (h.inside_m hp) (hp k lt) in
        (subst (λ (l : List ℕ). Inside K l) (sym same) (h.inside_t hp hv), (c, is, inside, none, λ only d. let (r, _, p) = only c inside (nonzero only d c (value laws)) in none r p))
      where
        nonzero : IsField K → Distinct ps → (c : ℕ) → Value laws m (get_or ps k 0) c → c ≡ K.zero → ⊥
        nonzero only d c v z = next_nonzero laws ps only hp d k lt (ap (at (elements laws) (element_discrete K) (point laws ps k)) (sym (h.master hp laws)) ∙ element_same K (v ∙ z ∙ sym (code_zero laws)))
