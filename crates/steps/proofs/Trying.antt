-- What is joined from the images at points, and the test of it.
use Rattle.std.proofs.Common.{◌≡◌, ℕ, suc, pred, ◌+◌, ◌-◌, ◌*◌, ◌/◌, ◌<◌, ◌≤◌, Bool, true, ◌⊎◌, ◌↔◌, List, [], ◌∷◌, map, length, get_or, Ok, Err, sym, refl, ap, ◌∙◌, subst, ap₂, inl, inr, arith}
use Rattle.std.proofs.lemmas.Bool.{cases_lt}
use Rattle.coefficients.specs.Arithmetic.{Arithmetic, Laws, IsField}
use Rattle.coefficients.specs.declared.kind.ReciprocalFault.{ReciprocalFault}
use Rattle.algebra.specs.Lists.{All, Distinct}
use Rattle.algebra.specs.Polynomial.{Poly, size}
use Rattle.algebra.proofs.Degrees.{size_of_zero}
use Rattle.bivariate.specs.Degrees.{deg_y, Within}
use Rattle.brown.specs.Prepared.{Prepared, closing_number}
use Rattle.brown.specs.Joined.{Fits, JoinedAt}
use Rattle.polynomials.specs.Elements.{Element, element_discrete, elements, read, polynomials, polynomial_xy, table}
use Rattle.polynomials.specs.Rows.{Inside, cut_row}
use Rattle.tables.specs.declared.faults.DivisionFault.TheVariants.{Reciprocal}
use Rattle.tables.specs.Degrees.{SizeY}
use Rattle.tables.specs.Join as Tables
use Rattle.tables.proofs.Points.{code_read}
use Rattle.tables.proofs.Sizes.{of_rows, of_past}
use Rattle.tables.proofs.CutRows.{cut_row_length, cut_row_code}
use Rattle.values.specs.Meaning.{scalars}
use Rattle.steps.specs.declared.prepare.Workings.{Workings}
use Rattle.steps.specs.declared.factored.Factored.{Factored}
use Rattle.steps.specs.Faults.{Faulty}
use Rattle.steps.specs.Prepare.{SameAs}
use Rattle.steps.specs.Trial.{JoinedOf, Joins, Trying}
use Rattle.steps.proofs.Fields.{width_here}

-- rows of 16 elements each
pub rows_inside : (K : Arithmetic) (t : List ℕ) (n : ℕ) → length t ≡ 16 * n → ((i : ℕ) → i < n → Inside K (cut_row 16 t i)) → Inside K t
rows_inside K t n long h j lt =
    let i : ℕ = j / 16 in
    let place : 16 * i + (j - 16 * i) ≡ j = omega arith in
    let whole : length (cut_row 16 t i) ≡ 16 = cut_row_length 16 t i (omega arith) in
    ap (λ k. K.element (get_or t k 0)) (sym place) ∙ ap K.element (sym (cut_row_code 16 t i (j - 16 * i) (omega arith))) ∙ h i (omega arith) (j - 16 * i) (omega arith)

-- a property of what every code of a list means
pub all_places : {E : Type 0} (f : ℕ → E) (P : E → Type 0) (l : List ℕ) → ((i : ℕ) → i < length l → P (f (get_or l i 0))) → All P (map f l)
all_places f P [] h = tt
all_places f P (x ∷ l) h = (h 0 (omega arith), all_places f P l (λ i lt. h (suc i) (omega arith)))

pub map_length : {E : Type 0} (f : ℕ → E) (l : List ℕ) → length (map f l) ≡ length l
map_length f [] = refl
map_length f (x ∷ l) = ap suc (map_length f l)

-- different codes mean different elements
pub distinct_read : {K : Arithmetic} (laws : Laws K) (l : List ℕ) → Inside K l → Distinct l → Distinct (map (read laws) l)
distinct_read laws [] h d = tt
distinct_read {K = K} laws (x ∷ l) h d = (apart (h 0 (omega arith)) l (λ i lt. h (suc i) (omega arith)) d.0, distinct_read laws l (λ i lt. h (suc i) (omega arith)) d.1)
  where
    apart : K.element x ≡ true → (l : List ℕ) → Inside K l → All (λ y. ¬ (y ≡ x)) l → All (λ e. ¬ (e ≡ read laws x)) (map (read laws) l)
    apart xi [] h n = tt
    apart xi (y ∷ l) h n = (λ e. n.0 (sym (code_read laws y (h 0 (omega arith))) ∙ ap (λ (c : Element K). c.0) e ∙ code_read laws x xi), apart xi l (λ i lt. h (suc i) (omega arith)) n.1)

-- joined rows have a degree in y below the number of points
within : {K : Arithmetic} (laws : Laws K) (only : IsField K) (ps vs t : List ℕ) → length t ≡ 512 → Tables.Joined laws ps vs t → Within (scalars laws only) (length ps) (polynomial_xy laws 32 t)
within {K = K} laws only ps vs t long joined i = go (cases_lt i 16)
  where
    go : (i < 16) ⊎ (16 ≤ i) → size (elements laws) ((polynomial_xy laws 32 t).0 i) ≤ length ps
    go (inl lt) = rw (of_rows laws 32 t i) (joined.small i lt)
    go (inr le) = let z = ap (size (elements laws)) (of_past laws 32 t i long le) ∙ size_of_zero (elements laws) (element_discrete K) in omega arith

module _ {K : Arithmetic} (ps ds ls rs : List ℕ) (j : Factored 512) (long_ds : length ds ≡ 16 * length ps) (long_ls : length ls ≡ 16 * length ps) (long_rs : length rs ≡ 16 * length ps) (long_D : length j.divisor ≡ 512) (long_L : length j.left ≡ 512) (long_R : length j.right ≡ 512)
    (of_D : Tables.Joining K ps ds j.divisor (Ok tt)) (of_L : Tables.Joining K ps ls j.left (Ok tt)) (of_R : Tables.Joining K ps rs j.right (Ok tt)) where
  pub joins : Joins K ps ds ls rs (Ok j)
  joins a b k w wk g enough =
      let D = of_D g.inside (rows_inside K ds (length ps) long_ds (λ i lt. (g.images i lt).divisor_in)) in
      let L = of_L g.inside (rows_inside K ls (length ps) long_ls (λ i lt. (g.images i lt).left_in)) in
      let R = of_R g.inside (rows_inside K rs (length ps) long_rs (λ i lt. (g.images i lt).right_in)) in
      (record { divisor_in = D.0; left_in = L.0; right_in = R.0 }, λ laws only p. joined_of laws only p (wk.same laws only p) (D.1 laws) (L.1 laws) (R.1 laws))
    where
      joined_of : (laws : Laws K) (only : IsField K) (p : Prepared (scalars laws only) (table laws a) (table laws b)) → SameAs laws only p w → Tables.Joined laws ps ds j.divisor → Tables.Joined laws ps ls j.left → Tables.Joined laws ps rs j.right → JoinedOf laws only a b k ps j p
      joined_of laws only p same D L R =
          let F = scalars laws only in
          let number : length ps ≡ closing_number F p = enough ∙ same.closing in
          record {
            sample = record {
              number = map_length (read laws) ps ∙ number;
              distinct = distinct_read laws ps g.inside g.distinct;
              fits = all_places (read laws) (Fits F p k) ps (λ i lt. let m = (g.images i lt).are laws only p in record { stands = m.stands; g = m.g; image = m.image; degree = m.degree });
            };
            joined = record {
              G_within = subst (λ (n : ℕ). Within F n (polynomial_xy laws 32 j.divisor)) number (within laws only ps ds j.divisor long_D D);
              A_within = subst (λ (n : ℕ). Within F n (polynomial_xy laws 32 j.left)) number (within laws only ps ls j.left long_L L);
              B_within = subst (λ (n : ℕ). Within F n (polynomial_xy laws 32 j.right)) number (within laws only ps rs j.right long_R R);
              values = all_places (read laws) (JoinedAt F p (polynomial_xy laws 32 j.divisor) (polynomial_xy laws 32 j.left) (polynomial_xy laws 32 j.right)) ps (λ i lt. let m = (g.images i lt).are laws only p in record {
                g = m.g;
                image = m.image;
                of_G = D.meets i lt ∙ m.divisor;
                of_A = m.left ∙ ap (λ (q : Poly (elements laws)). (polynomials laws).mul m.g q) (sym (L.meets i lt));
                of_B = m.right ∙ ap (λ (q : Poly (elements laws)). (polynomials laws).mul m.g q) (sym (R.meets i lt));
              });
            };
          }

-- over a field different points are always joined
pub join_refused : (K : Arithmetic) (ps vs t : List ℕ) (e : ReciprocalFault) → Tables.Joining K ps vs t (Err e) → Inside K ps → Distinct ps → Inside K vs → Faulty K (Reciprocal e)
join_refused K ps vs t e told hp d hv =
    let (inside, (c, is, ci, none, never)) = told hp hv in
    (λ only. never only d, (c, is, ci, none))

-- the degrees add up, by the sizes in y that were found
pub tried : {K : Arithmetic} (w : Workings) (j : Factored 512) (d l r : ℕ) (passed : Bool) → SizeY K 32 j.divisor d → SizeY K 32 j.left l → SizeY K 32 j.right r → (passed ≡ true) ↔ ((w.height_left ≡ pred d + pred l) × (w.height_right ≡ pred d + pred r)) → Trying K w j passed
tried {K = K} w j d l r passed in-D in-L in-R test a b wk e laws only p =
    let F = scalars laws only in
    let same = wk.same laws only p in
    let height : (t : List ℕ) (n : ℕ) → SizeY K 32 t n → Inside K t → deg_y F (polynomial_xy laws 32 t) ≡ pred n = λ t n size inside. ap pred (sym (width_here laws only (polynomial_xy laws 32 t)) ∙ size inside laws only) in
    let D = height j.divisor d in-D e.divisor_in in
    let L = height j.left l in-L e.left_in in
    let R = height j.right r in-R e.right_in in (
      λ t. let (x, y) = test.0 t in record { left = sym same.height_A ∙ x ∙ ap₂ ◌+◌ (sym D) (sym L); right = sym same.height_B ∙ y ∙ ap₂ ◌+◌ (sym D) (sym R) },
      λ t. test.1 (same.height_A ∙ t.left ∙ ap₂ ◌+◌ D L, same.height_B ∙ t.right ∙ ap₂ ◌+◌ D R),
    )
