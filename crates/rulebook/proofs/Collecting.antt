-- What is collected from lucky points, as many as are needed, is the greatest common divisor of the polynomials of two tables with its cofactors, and no other tables are.
use Rattle.std.proofs.Common.{◌≡◌, ℕ, zero, suc, ◌+◌, ◌-◌, ◌*◌, eqb, List, [], ◌∷◌, map, length, Some, None, Ok, Err, Option, Result, sym, ap, ◌∙◌, subst, ap₂, arith}
use Rattle.std.proofs.lemmas.Bool.{eq-eqb, ne_eqb, cond-false}
use Rattle.coefficients.specs.Arithmetic.{Arithmetic, Laws, IsField}
use Rattle.algebra.specs.Ring.{Ring}
use Rattle.algebra.specs.Divisors.{Greatest}
use Rattle.algebra.specs.Lead.{Monic}
use Rattle.algebra.specs.Lists.{All, Distinct}
use Rattle.algebra.specs.Field.{Field}
use Rattle.algebra.specs.Polynomial.{Poly}
use Rattle.algebra.specs.Change.{Poly₂, poly₂}
use Rattle.algebra.proofs.Euclid.{size_zero}
use Rattle.algebra.proofs.OneUnknown.{monics}
use Rattle.bivariate.specs.Degrees.{lift, deg, deg_x, deg_y}
use Rattle.bivariate.specs.TwoUnknowns.{Content, Reduced}
use Rattle.bivariate.proofs.Contents.{contents}
use Rattle.bivariate.proofs.Gcds.{gcds, whole_nonzero}
use Rattle.bivariate.proofs.Domain.{left_nonzero}
use Rattle.bivariate.proofs.Width.{degrees}
use Rattle.brown.specs.Prepared.{Prepared, closing_number, need, unlucky_bound, Lucky}
use Rattle.brown.specs.Joined.{Fits, Sample}
use Rattle.brown.specs.Theorems as Brown
use Rattle.brown.proofs.Lists.{all_map}
use Rattle.brown.proofs.Preparation.{preparation, G_nonzero, Ā_nonzero, B̄_nonzero}
use Rattle.brown.proofs.Images.{images}
use Rattle.brown.proofs.Test.{test}
use Rattle.brown.proofs.Bound.{bound}
use Rattle.rules.specs.declared.refusal.Table.{Table}
use Rattle.rules.specs.declared.refusal.Table.TheVariants.{Divisor, CofactorA, CofactorB}
use Rattle.rules.specs.declared.refusal.Refusal.{Refusal}
use Rattle.rules.specs.declared.refusal.Refusal.TheVariants.{Length, Short}
use Rattle.rules.specs.Job.{Stage, gathering, settled, void, State, counts}
use Rattle.polynomials.specs.Rows.{Inside}
use Rattle.polynomials.specs.Elements.{Element, element_discrete, elements, polynomial, polynomials, table}
use Rattle.polynomials.specs.Relations.{MonicGcd}
use Rattle.values.specs.Ops.{degree}
use Rattle.values.specs.Values.{degree_x, degree_y, gcd, content, primitive, times, quotient_x}
use Rattle.values.specs.Tables as Tables
use Rattle.values.specs.Tables.{rows, table_of}
use Rattle.values.specs.Meaning.{TrimmedY, TrimmedYx, polynomial₂, scalars}
use Rattle.values.specs.Relations.{Unique, Multiple, Factors}
use Rattle.values.specs.Theorems.{RingValues, TableValues, FieldValues}
use Rattle.values.proofs.Lists.{each_in}
use Rattle.values.proofs.Elements.{reading_yx}
use Rattle.values.proofs.Images.{within_width, width_within}
use Rattle.values.proofs.Values.{values}
use Rattle.rulebook.specs.Pairs.{join_divisor}
use Rattle.rulebook.specs.Collecting.{Tables, part_found, divisor_found, tables_of, collected, room_check, with_room, collect_rule}
use Rattle.rulebook.specs.Opening.{first_refusal}
use Rattle.rulebook.specs.Law.{Whole, Answers}
use Rattle.rulebook.proofs.Opening.{passes, fails, First, done, found, next, first_is}
use Rattle.rulebook.proofs.Right as Right
use Rattle.rulebook.proofs.Right.{greatest_eq}

-- The ways in which collecting can end, into tables of g, ca and cb codes.
module _ (K : Arithmetic) (a b : List ℕ) (s : State) (g ca cb : ℕ) where
  abbrev by_stage : Stage → Result Tables Refusal
  by_stage stage =
      let room = first_refusal (room_check Divisor g ∷ room_check CofactorA ca ∷ room_check CofactorB cb ∷ []) in
      elim stage [ void r ↦ Err r | gathering ↦ Err (Short (counts s)) | settled ↦ with_room room (collected K a b s) ]

  room : (name : Table) (n : ℕ) → n ≡ 256 → room_check name n ≡ None
  room name n e = passes _ _ (eq-eqb n 256 e)

  no_room : (name : Table) (n : ℕ) → ¬ (n ≡ 256) → room_check name n ≡ Some (Length name n)
  no_room name n e = fails _ _ (ne_eqb n 256 e)

  by_room : {r : Option Refusal} → s.stage ≡ settled → First (room_check Divisor g ∷ room_check CofactorA ca ∷ room_check CofactorB cb ∷ []) r → collect_rule K a b s g ca cb ≡ with_room r (collected K a b s)
  by_room e t = ap by_stage e ∙ ap (λ r. with_room r (collected K a b s)) (first_is t)

  pub collects_void : (r : Refusal) → s.stage ≡ void r → collect_rule K a b s g ca cb ≡ Err r
  collects_void r e = ap by_stage e

  pub collects_short : s.stage ≡ gathering → collect_rule K a b s g ca cb ≡ Err (Short (counts s))
  collects_short e = ap by_stage e

  pub refuses_divisor : s.stage ≡ settled → ¬ (g ≡ 256) → collect_rule K a b s g ca cb ≡ Err (Length Divisor g)
  refuses_divisor e n = by_room e (found (no_room Divisor g n))

  pub refuses_cofactor_A : s.stage ≡ settled → g ≡ 256 → ¬ (ca ≡ 256) → collect_rule K a b s g ca cb ≡ Err (Length CofactorA ca)
  refuses_cofactor_A e h n = by_room e (next (room Divisor g h) (found (no_room CofactorA ca n)))

  pub refuses_cofactor_B : s.stage ≡ settled → g ≡ 256 → ca ≡ 256 → ¬ (cb ≡ 256) → collect_rule K a b s g ca cb ≡ Err (Length CofactorB cb)
  refuses_cofactor_B e h k n = by_room e (next (room Divisor g h) (next (room CofactorA ca k) (found (no_room CofactorB cb n))))

  pub collects : s.stage ≡ settled → g ≡ 256 → ca ≡ 256 → cb ≡ 256 → collect_rule K a b s g ca cb ≡ Ok (collected K a b s)
  collects e h k l = by_room e (next (room Divisor g h) (next (room CofactorA ca k) (next (room CofactorB cb l) done)))

same_tables : (s t : Tables) → s.divisor ≡ t.divisor → s.cofactor_A ≡ t.cofactor_A → s.cofactor_B ≡ t.cofactor_B → s ≡ t
same_tables s t e f h =
    let by : List ℕ → List ℕ → List ℕ → Tables = λ x y z. record { divisor = x; cofactor_A = y; cofactor_B = z } in
    ap₂ (λ x y. by x y s.cofactor_B) e f ∙ ap (by t.divisor t.cofactor_A) h

module _ {K : Arithmetic} (laws : Laws K) (only : IsField K) where
  abbrev R : Ring (Element K)
  R = elements laws

  abbrev eq : (a b : Element K) → Dec (a ≡ b)
  eq = element_discrete K

  abbrev F : Field (Element K)
  F = scalars laws only

  open polynomials laws use {zero as 𝟘}
  open poly₂ R eq use {zero as 𝟎, mul as ◌⊠◌}

  infixl 70 ◌⊠◌
  abbrev m : List ℕ → Poly R
  m xs = polynomial laws xs

  abbrev m₂ : List (List ℕ) → Poly₂ R eq
  m₂ a = polynomial₂ laws a

  ring_values : RingValues laws
  ring_values = (values K laws).0

  table_values : TableValues laws
  table_values = (values K laws).1

  field_values : FieldValues laws only
  field_values = (values K laws).2 only

  some_rows : (a : List (List ℕ)) → ¬ (m₂ a ≡ 𝟎) → ¬ (a ≡ [])
  some_rows a n e = n (ap m₂ e ∙ ring_values.polynomials₂_are.zero_is)

  -- rows that fit into a table, and polynomials all of whose powers of x and y are below 16
  fits_table : (a : List (List ℕ)) → TrimmedYx K a → Tables.Fits a → Brown.Table F (m₂ a)
  fits_table a h f = record {
    in_x = let s = ring_values.size_x_is a h in let l = f.rows_fit in omega arith;
    in_y = within_width laws only a (each_in (reading_yx laws) a h) 16 f.codes_fit;
  }

  table_fits : (a : List (List ℕ)) → TrimmedYx K a → Brown.Table F (m₂ a) → Tables.Fits a
  table_fits a h t = record {
    rows_fit = let s = ring_values.size_x_is a h in let l = t.in_x in omega arith;
    codes_fit = width_within laws only a (each_in (reading_yx laws) a h) 16 t.in_y;
  }

  -- tables of 256 elements with one meaning are equal
  pub same_table : (s t : List ℕ) → Whole K s → Whole K t → table laws s ≡ table laws t → s ≡ t
  same_table s t h k e =
      let r = table_values.rows_are t k.long k.inside in
      let q = table_values.rows_are s h.long h.inside in
      sym (table_values.table_of_rows s h.long) ∙ ap (table_of K) (r.only (rows K s) q.inside (q.has ∙ e)) ∙ table_values.table_of_rows t k.long

  module _ (a b : List ℕ) (a_long : length a ≡ 256) (b_long : length b ≡ 256) (a_inside : Inside K a) (b_inside : Inside K b) (p : Prepared F (table laws a) (table laws b)) where
    abbrev rows_A : Unique (TrimmedYx K) (λ r. m₂ r ≡ table laws a) (rows K a)
    rows_A = table_values.rows_are a a_long a_inside

    abbrev rows_B : Unique (TrimmedYx K) (λ r. m₂ r ≡ table laws b) (rows K b)
    rows_B = table_values.rows_are b b_long b_inside

    A_nonzero : ¬ (table laws a ≡ 𝟎)
    A_nonzero = whole_nonzero F p.of_A

    B_nonzero : ¬ (table laws b ≡ 𝟎)
    B_nonzero = whole_nonzero F p.of_B

    pub A_table : Brown.Table F (table laws a)
    A_table = subst (Brown.Table F) rows_A.has (fits_table (rows K a) rows_A.inside (table_values.rows_fit a))

    pub B_table : Brown.Table F (table laws b)
    B_table = subst (Brown.Table F) rows_B.has (fits_table (rows K b) rows_B.inside (table_values.rows_fit b))

    -- the greatest common divisor of the contents
    abbrev c : List ℕ
    c = gcd K (content K (rows K a)) (content K (rows K b))

    c_is : Unique (TrimmedY K) (MonicGcd laws (content K (rows K a)) (content K (rows K b))) c
    c_is = field_values.gcd_is _ _ (Right.content_in laws only a a_long a_inside A_nonzero) (Right.content_in laws only b b_long b_inside B_nonzero)

    A_parts : (p.content_A ≡ m (content K (rows K a))) × (p.A' ≡ m₂ (primitive K (rows K a)))
    A_parts = Right.A_parts laws only a b a_long b_long a_inside b_inside p

    B_parts : (p.content_B ≡ m (content K (rows K b))) × (p.B' ≡ m₂ (primitive K (rows K b)))
    B_parts = Right.B_parts laws only a b a_long b_long a_inside b_inside p

    c_greatest : Greatest (polynomials laws) p.content_A p.content_B (m c)
    c_greatest = greatest_eq (sym A_parts.0) (sym B_parts.0) c_is.has.greatest

    c_monic : Monic R (m c)
    c_monic = c_is.has.normal (λ z. nonzero (size_zero R eq (m c) z))
      where
        nonzero : ¬ (m c ≡ 𝟘)
        nonzero = let (q, e) = c_greatest.left in left_nonzero (polynomials laws) e ((monics F).nonzero p.content_A p.of_A.monic)

    -- G from G'
    module _ (h : List (List ℕ)) (h_in : TrimmedYx K h) (h_is : m₂ h ≡ p.G') where
      abbrev g : List (List ℕ)
      g = times K c h

      whole : Unique (TrimmedYx K) (λ r. Multiple laws r c h) g
      whole = ring_values.times_is c h c_is.inside h_in

      divided : (Ā : Poly₂ R eq) × (B̄ : Poly₂ R eq) × Reduced F (table laws a) (table laws b) (m₂ g) Ā B̄
      divided = let (Ā, B̄, r) = (preparation F).gcd p c_monic c_greatest in (Ā, B̄, subst (λ G. Reduced F (table laws a) (table laws b) G Ā B̄) (sym (whole.has ∙ ap (λ H. lift F (m c) ⊠ H) h_is)) r)

      g_some : ¬ (g ≡ [])
      g_some = some_rows g (left_nonzero (poly₂ R eq) divided.2.left A_nonzero)

      A_over : Unique (TrimmedYx K) (Factors laws (rows K a) g) (quotient_x K (rows K a) g)
      A_over = field_values.quotient_x_is (rows K a) g rows_A.inside whole.inside g_some (divided.0, rows_A.has ∙ divided.2.left)

      B_over : Unique (TrimmedYx K) (Factors laws (rows K b) g) (quotient_x K (rows K b) g)
      B_over = field_values.quotient_x_is (rows K b) g rows_B.inside whole.inside g_some (divided.1, rows_B.has ∙ divided.2.right)

      reduced : Reduced F (table laws a) (table laws b) (m₂ g) (m₂ (quotient_x K (rows K a) g)) (m₂ (quotient_x K (rows K b) g))
      reduced = record { monic = divided.2.monic; greatest = divided.2.greatest; left = sym rows_A.has ∙ A_over.has; right = sym rows_B.has ∙ B_over.has }

      tables_fit : Tables.Fits g × Tables.Fits (quotient_x K (rows K a) g) × Tables.Fits (quotient_x K (rows K b) g)
      tables_fit =
          let (t, u, v) = (bound F).tables A_nonzero B_nonzero reduced A_table B_table in
          (table_fits g whole.inside t, table_fits _ A_over.inside u, table_fits _ B_over.inside v)

      whole_table : (r : List (List ℕ)) → TrimmedYx K r → Whole K (table_of K r)
      whole_table r h = let (l, i) = table_values.table_in r h in record { long = l; inside = i }

      pub answers_with : Answers laws only a b (tables_of K (rows K a) (rows K b) g)
      answers_with = record {
        divisor = whole_table g whole.inside;
        cofactor_A = whole_table _ A_over.inside;
        cofactor_B = whole_table _ B_over.inside;
        reduced =
            let e = table_values.table_is g whole.inside tables_fit.0 in
            let f = table_values.table_is _ A_over.inside tables_fit.1 in
            let k = table_values.table_is _ B_over.inside tables_fit.2 in
            rw (e, f, k) reduced;
      }

    pub one_answer : (s t : Tables) → Answers laws only a b s → Answers laws only a b t → s ≡ t
    one_answer s t x y =
        let (e, f, h) = (gcds F).unique A_nonzero x.reduced y.reduced in
        same_tables s t (same_table _ _ x.divisor y.divisor e) (same_table _ _ x.cofactor_A y.cofactor_A f) (same_table _ _ x.cofactor_B y.cofactor_B h)

    -- Lucky points, as many as are needed.
    module _ (αs : List (Element K)) (distinct : Distinct αs) (lucky : All (Lucky F p) αs) (number : length αs ≡ need F p) where
      abbrev d : ℕ
      d = deg_x F p.G'

      abbrev γ : List ℕ
      γ = Right.γ laws only a b a_long b_long a_inside b_inside p

      abbrev a' : List (List ℕ)
      a' = primitive K (rows K a)

      abbrev b' : List (List ℕ)
      b' = primitive K (rows K b)

      abbrev ps : List ℕ
      ps = map (λ (α : Element K). α.0) αs

      abbrev G* : List (List ℕ)
      G* = join_divisor K γ a' b' ps

      γ_in : TrimmedY K γ
      γ_in = Right.γ_in laws only a b a_long b_long a_inside b_inside p

      γ_is : p.γ ≡ m γ
      γ_is = Right.γ_is laws only a b a_long b_long a_inside b_inside p

      a'_in : TrimmedYx K a'
      a'_in = Right.primitive_in laws only a a_long a_inside A_nonzero

      b'_in : TrimmedYx K b'
      b'_in = Right.primitive_in laws only b b_long b_inside B_nonzero

      fits : (α : Element K) → Lucky F p α → Fits F p d α
      fits α l = let (g, t) = (images F).image p α in record { stands = l.stands; g = g; image = t; degree = ((images F).lucky p α l.stands g t).1 l }

      module _ (k : ℕ) (is : suc k ≡ d) where
        sample : Sample F p d αs
        sample = record { number = number ∙ cond-false (eqb d 0) 1 (closing_number F p) (ne_eqb d 0 (λ z. omega arith)); distinct = distinct; fits = all_map fits αs lucky }

        G*_in : TrimmedYx K G*
        G*_in = Right.G*_in laws only p γ a' b' γ_in a'_in b'_in γ_is A_parts.1 B_parts.1 αs distinct sample.number

        G*_of : (Δ : Poly R) × Content F (m₂ G*) Δ p.G'
        G*_of = let t = (test F).answer p sample (Right.joined laws only p γ a' b' γ_in a'_in b'_in γ_is A_parts.1 B_parts.1 αs distinct sample.number) in (t.Δ, t.of_G)

        split : Unique (λ (x : List ℕ × List (List ℕ)). TrimmedY K x.0 × TrimmedYx K x.1) (λ x. Content F (m₂ G*) (m x.0) (m₂ x.1)) (content K G*, primitive K G*)
        split = field_values.content_is G* G*_in (some_rows G* (whole_nonzero F G*_of.1))

        joined_part : TrimmedYx K (primitive K G*) × (m₂ (primitive K G*) ≡ p.G')
        joined_part = (split.inside.1, ((contents F).unique split.has G*_of.1).1)

      -- what is found from them is G'
      part_is : (k : ℕ) → k ≡ d → TrimmedYx K (part_found K γ a' b' k ps) × (m₂ (part_found K γ a' b' k ps) ≡ p.G')
      part_is zero e = (ring_values.polynomials₂_are.one_in, ring_values.polynomials₂_are.one_is ∙ sym ((preparation F).free_of_x p (sym e)))
      part_is (suc k) e = joined_part k e

      pub answers : (k : ℕ) → k ≡ d → Answers laws only a b (tables_of K (rows K a) (rows K b) (divisor_found K (rows K a) (rows K b) k ps))
      answers k e = let t = part_is k e in answers_with (part_found K γ a' b' k ps) t.0 t.1

      -- the degrees of the cofactors of G'
      module _ (k : ℕ) (e : k ≡ d) where
        abbrev h : List (List ℕ)
        h = part_found K γ a' b' k ps

        over_x : (P Q : Poly₂ R eq) (r : List (List ℕ)) → TrimmedYx K r → P ≡ m₂ r → ¬ (Q ≡ 𝟎) → P ≡ p.G' ⊠ Q → deg_x F Q ≡ degree_x r - degree_x h
        over_x P Q r r_in is n by =
            let x = (degrees F).in_x p.G' Q (G_nonzero F p) n in
            let y = ap (deg_x F) (sym is ∙ by) in
            let z = field_values.degree_x_is r r_in in
            let u = field_values.degree_x_is h (part_is k e).0 in
            let v = ap (deg_x F) (part_is k e).1 in
            omega arith

        over_y : (P Q : Poly₂ R eq) (r : List (List ℕ)) → TrimmedYx K r → P ≡ m₂ r → ¬ (Q ≡ 𝟎) → P ≡ p.G' ⊠ Q → deg_y F Q ≡ degree_y r - degree_y h
        over_y P Q r r_in is n by =
            let x = (degrees F).in_y p.G' Q (G_nonzero F p) n in
            let y = ap (deg_y F) (sym is ∙ by) in
            let z = field_values.degree_y_is r r_in in
            let u = field_values.degree_y_is h (part_is k e).0 in
            let v = ap (deg_y F) (part_is k e).1 in
            omega arith

        pub bound_is : unlucky_bound F p ≡ degree γ + ((degree_x a' - degree_x h) * (degree_y b' - degree_y h) + (degree_x b' - degree_x h) * (degree_y a' - degree_y h))
        bound_is =
            ap₂ ◌+◌ (ap (deg F) γ_is ∙ field_values.degree_is γ γ_in)
            (ap₂ ◌+◌ (ap₂ ◌*◌ (over_x _ _ a' a'_in A_parts.1 (Ā_nonzero F p) p.reduced.left) (over_y _ _ b' b'_in B_parts.1 (B̄_nonzero F p) p.reduced.right))
            (ap₂ ◌*◌ (over_x _ _ b' b'_in B_parts.1 (B̄_nonzero F p) p.reduced.right) (over_y _ _ a' a'_in A_parts.1 (Ā_nonzero F p) p.reduced.left)))
