-- Over a field, what is computed on two tables is right of the polynomials that they mean.
use Rattle.std.proofs.Common.{◌≡◌, ℕ, ◌+◌, min, max, Bool, true, false, ◌⊎◌, ◌↔◌, List, [], ◌∷◌, map, length, sym, refl, ap, ◌∙◌, subst, ap₂, inl, inr, arith}
use lib.ListN.{length-map}
use Rattle.std.proofs.lemmas.Bool.{eqb-true, eq-eqb, and_parts, and_from}
use Rattle.coefficients.specs.Arithmetic.{Arithmetic, Laws, IsField}
use Rattle.algebra.specs.Ring.{Ring}
use Rattle.algebra.specs.Divisors.{Greatest}
use Rattle.algebra.specs.Lists.{All, Distinct}
use Rattle.algebra.specs.Field.{Field}
use Rattle.algebra.specs.Polynomial.{Poly, at}
use Rattle.algebra.specs.Change.{Poly₂, poly₂, number}
use Rattle.algebra.proofs.Divisors.{divides_eq}
use Rattle.algebra.proofs.Euclid.{size_zero}
use Rattle.algebra.proofs.Monic.{greatest_unique}
use Rattle.algebra.proofs.OneUnknown.{monics}
use Rattle.bivariate.specs.Degrees.{deg, deg_x, deg_y, Within}
use Rattle.bivariate.specs.TwoUnknowns.{Content}
use Rattle.bivariate.proofs.Contents.{contents}
use Rattle.bivariate.proofs.Gcds.{whole_nonzero}
use Rattle.bivariate.proofs.Domain.{left_nonzero}
use Rattle.brown.specs.Prepared.{at_y, Prepared, closing_number}
use Rattle.brown.specs.Joined.{Image, Sample, JoinedAt, Joined, Passes}
use Rattle.brown.proofs.Images.{images}
use Rattle.brown.proofs.Test.{test}
use Rattle.rules.specs.Job.{zero_lead, image, passed, failed}
use Rattle.method.specs.Right.{Right}
use Rattle.polynomials.specs.Rows.{Inside}
use Rattle.polynomials.specs.Elements.{Element, element_same, element_discrete, elements, read, polynomial, polynomials, table}
use Rattle.polynomials.specs.Relations.{Value, MonicGcd}
use Rattle.values.specs.Ops.{Ops, codes, scale, value, degree}
use Rattle.values.specs.Values as Values
use Rattle.values.specs.Values.{degree_y, quotient, content, primitive, lead_gcd, join}
use Rattle.values.specs.Tables.{rows}
use Rattle.values.specs.Meaning.{In, TrimmedY, TrimmedYx, polynomial₂, scalars}
use Rattle.values.specs.Relations.{Pairwise, Unique, Exact, ThroughImages, GcdOfLeads, ContentOf}
use Rattle.values.specs.Theorems.{RingValues, TableValues, FieldValues}
use Rattle.values.proofs.Elements.{read_is, all_inside}
use Rattle.values.proofs.Values.{values}
use Rattle.rulebook.specs.Pairs.{codes_of, finding, tested, image_gcd, join_divisor, join_cofactor, adds_up, pair_with, pair_of}

pub greatest_eq : {E : Type 0} {S : Ring E} {a b c d g : E} → a ≡ c → b ≡ d → Greatest S a b g → Greatest S c d g
greatest_eq {S = S} e f t = record { left = divides_eq S e t.left; right = divides_eq S f t.right; greatest = λ x u v. t.greatest x (divides_eq S (sym e) u) (divides_eq S (sym f) v) }

module _ {K : Arithmetic} (laws : Laws K) (only : IsField K) where
  abbrev R : Ring (Element K)
  R = elements laws

  abbrev eq : (a b : Element K) → Dec (a ≡ b)
  eq = element_discrete K

  abbrev F : Field (Element K)
  F = scalars laws only

  abbrev O : Ops ℕ
  O = codes K

  open polynomials laws use {zero as 𝟘, mul as ◌⊙◌}
  open poly₂ R eq use {zero as 𝟎}

  infixl 70 ◌⊙◌
  abbrev m : List ℕ → Poly R
  m xs = polynomial laws xs

  abbrev m₂ : List (List ℕ) → Poly₂ R eq
  m₂ a = polynomial₂ laws a

  ring_values : RingValues laws
  ring_values = (values K laws).0

  table_values : TableValues laws
  table_values = (values K laws).1

  field_values : FieldValues laws only
  field_values = (values K laws).2 only

  -- elements and their codes
  read_code : (α : Element K) → read laws α.0 ≡ α
  read_code α = element_same K (read_is laws α.0 α.1)

  abbrev code : Element K → ℕ
  code α = α.0

  all_in : (αs : List (Element K)) → All (In K) (map code αs)
  all_in [] = tt
  all_in (α ∷ αs) = (α.1, all_in αs)

  other : (α : Element K) (αs : List (Element K)) → All (λ β. ¬ (β ≡ α)) αs → All (λ n. ¬ (n ≡ code α)) (map code αs)
  other α [] h = tt
  other α (β ∷ αs) h = (λ e. h.0 (element_same K e), other α αs h.1)

  distinct : (αs : List (Element K)) → Distinct αs → Distinct (map code αs)
  distinct [] d = tt
  distinct (α ∷ αs) d = (other α αs d.0, distinct αs d.1)

  all_trimmed : (f : ℕ → List ℕ) → ((α : Element K) → TrimmedY K (f (code α))) → (αs : List (Element K)) → All (TrimmedY K) (map f (map code αs))
  all_trimmed f h [] = tt
  all_trimmed f h (α ∷ αs) = (h α, all_trimmed f h αs)

  -- Rows that are joined from some polynomials at the codes of points.
  module _ (f : ℕ → List ℕ) (f_in : (α : Element K) → TrimmedY K (f (code α))) (αs : List (Element K)) (d : Distinct αs) where
    joined_rows : Unique (TrimmedYx K) (ThroughImages laws only (map code αs) (map f (map code αs))) (join K (map code αs) (map f (map code αs)))
    joined_rows = field_values.join_is (map code αs) (map f (map code αs)) (sym (length-map (map code αs) f)) (all_inside K (map code αs) (all_in αs)) (all_trimmed f f_in αs) (distinct αs d)

    joined_within : Within F (length αs) (m₂ (join K (map code αs) (map f (map code αs))))
    joined_within = subst (λ n. Within F n (m₂ (join K (map code αs) (map f (map code αs))))) (length-map αs code) joined_rows.has.small

    joined_values : All (λ α. at_y F α (m₂ (join K (map code αs) (map f (map code αs)))) ≡ m (f (code α))) αs
    joined_values = go (m₂ (join K (map code αs) (map f (map code αs)))) αs joined_rows.has.meets
      where
        go : (P : Poly₂ R eq) (βs : List (Element K)) → Pairwise (λ n v. at_y F (read laws n) P ≡ m v) (map code βs) (map f (map code βs)) → All (λ α. at_y F α P ≡ m (f (code α))) βs
        go P [] h = tt
        go P (β ∷ βs) h = (ap (λ α. at_y F α P) (sym (read_code β)) ∙ h.0, go P βs h.1)

  -- The rows a and b mean A' and B', and γ means γ.
  module _ {A B : Poly₂ R eq} (p : Prepared F A B) (γ : List ℕ) (a b : List (List ℕ)) (γ_in : TrimmedY K γ) (a_in : TrimmedYx K a) (b_in : TrimmedYx K b) (γ_is : p.γ ≡ m γ) (A_is : p.A' ≡ m₂ a) (B_is : p.B' ≡ m₂ b) where
    -- one point
    module _ (α : Element K) where
      abbrev g : List ℕ
      g = image_gcd K γ a b (code α)

      A_image_in : TrimmedY K (Values.image K a (code α))
      A_image_in = (ring_values.image_is a (code α) a_in α.1).inside

      B_image_in : TrimmedY K (Values.image K b (code α))
      B_image_in = (ring_values.image_is b (code α) b_in α.1).inside

      A_image : m (Values.image K a (code α)) ≡ at_y F α p.A'
      A_image = sym (ring_values.image_is a (code α) a_in α.1).has ∙ ap (λ β. at_y F β (m₂ a)) (read_code α) ∙ ap (at_y F α) (sym A_is)

      B_image : m (Values.image K b (code α)) ≡ at_y F α p.B'
      B_image = sym (ring_values.image_is b (code α) b_in α.1).has ∙ ap (λ β. at_y F β (m₂ b)) (read_code α) ∙ ap (at_y F α) (sym B_is)

      g_is : Unique (TrimmedY K) (MonicGcd laws (Values.image K a (code α)) (Values.image K b (code α))) g
      g_is = field_values.gcd_is _ _ A_image_in B_image_in

      g_nonzero : ¬ (m g ≡ 𝟘)
      g_nonzero = let (q, e) = g_is.has.greatest.left in left_nonzero (polynomials laws) e (λ z. (images F).A_nonzero p α (sym A_image ∙ z))

      g_some : ¬ (g ≡ [])
      g_some e = g_nonzero (ap m e ∙ ring_values.polynomials_are.zero_is)

      pub g_image : Image F p α (m g)
      g_image = record { monic = g_is.has.normal (λ z. g_nonzero (size_zero R eq (m g) z)); greatest = greatest_eq A_image B_image g_is.has.greatest }

      value_is : Unique (In K) (Value laws γ (code α)) (value O γ (code α))
      value_is = ring_values.value_is γ (code α) ((ring_values.trimmed_is γ).0 γ_in).0 α.1

      γ_value : read laws (value O γ (code α)) ≡ at R eq α p.γ
      γ_value = element_same K (read_is laws _ value_is.inside ∙ sym value_is.has) ∙ ap (λ β. at R eq β (m γ)) (read_code α) ∙ ap (at R eq α) (sym γ_is)

      vanishes : ((pair_with K γ a b).at_point (code α) ≡ zero_lead) ↔ (at R eq α p.γ ≡ R.zero)
      vanishes = go (O.null (value O γ (code α))) refl
        where
          go : (z : Bool) → O.null (value O γ (code α)) ≡ z → (finding z (degree g) ≡ zero_lead) ↔ (at R eq α p.γ ≡ R.zero)
          go true e = (λ t. sym γ_value ∙ ring_values.elements_are.null_zero _ value_is.inside e, λ t. refl)
          go false e = (λ t. let z : ◌≡◌ {A = ℕ} 0 1 = cc in absurd (omega arith), λ t. absurd (ring_values.elements_are.null_not _ value_is.inside e (γ_value ∙ t)))

      degrees : ¬ (at R eq α p.γ ≡ R.zero) → (h : Poly R) → Image F p α h → (pair_with K γ a b).at_point (code α) ≡ image (deg F h)
      degrees n h t = go (O.null (value O γ (code α))) refl
        where
          go : (z : Bool) → O.null (value O γ (code α)) ≡ z → finding z (degree g) ≡ image (deg F h)
          go true e = absurd (n (sym γ_value ∙ ring_values.elements_are.null_zero _ value_is.inside e))
          go false e = ap image (sym (field_values.degree_is g g_is.inside) ∙ ap (deg F) ((images F).unique p α (m g) h g_image t))

      -- what is joined
      G_in : TrimmedY K (scale O (value O γ (code α)) g)
      G_in = (ring_values.scale_is (value O γ (code α)) g value_is.inside g_is.inside).inside

      G_value : m (scale O (value O γ (code α)) g) ≡ number R eq (at R eq α p.γ) ⊙ m g
      G_value = (ring_values.scale_is (value O γ (code α)) g value_is.inside g_is.inside).has ∙ ap (λ c. number R eq c ⊙ m g) γ_value

      A_over : Unique (TrimmedY K) (Exact laws (Values.image K a (code α)) g) (quotient K (Values.image K a (code α)) g)
      A_over = field_values.quotient_is _ g A_image_in g_is.inside g_some g_is.has.greatest.left

      B_over : Unique (TrimmedY K) (Exact laws (Values.image K b (code α)) g) (quotient K (Values.image K b (code α)) g)
      B_over = field_values.quotient_is _ g B_image_in g_is.inside g_some g_is.has.greatest.right

    -- degrees
    γ_degree : deg F p.γ ≡ degree γ
    γ_degree = ap (deg F) γ_is ∙ field_values.degree_is γ γ_in

    A_degree : deg_y F p.A' ≡ degree_y a
    A_degree = ap (deg_y F) A_is ∙ field_values.degree_y_is a a_in

    B_degree : deg_y F p.B' ≡ degree_y b
    B_degree = ap (deg_y F) B_is ∙ field_values.degree_y_is b b_in

    -- different points, as many as the closing number
    module _ (αs : List (Element K)) (d : Distinct αs) (number_is : length αs ≡ closing_number F p) where
      abbrev ps : List ℕ
      ps = map code αs

      abbrev G* : List (List ℕ)
      G* = join_divisor K γ a b ps

      abbrev A* : List (List ℕ)
      A* = join_cofactor K γ a b a ps

      abbrev B* : List (List ℕ)
      B* = join_cofactor K γ a b b ps

      pub G*_in : TrimmedYx K G*
      G*_in = (joined_rows _ G_in αs d).inside

      A*_in : TrimmedYx K A*
      A*_in = (joined_rows _ (λ α. (A_over α).inside) αs d).inside

      B*_in : TrimmedYx K B*
      B*_in = (joined_rows _ (λ α. (B_over α).inside) αs d).inside

      joined_at : (βs : List (Element K)) → All (λ α. at_y F α (m₂ G*) ≡ m (scale O (value O γ (code α)) (g α))) βs → All (λ α. at_y F α (m₂ A*) ≡ m (quotient K (Values.image K a (code α)) (g α))) βs → All (λ α. at_y F α (m₂ B*) ≡ m (quotient K (Values.image K b (code α)) (g α))) βs → All (JoinedAt F p (m₂ G*) (m₂ A*) (m₂ B*)) βs
      joined_at [] x y z = tt
      joined_at (α ∷ βs) x y z = (
        record {
          g = m (g α);
          image = g_image α;
          of_G = x.0 ∙ G_value α;
          of_A = sym (A_image α) ∙ (A_over α).has ∙ ap (λ q. m (g α) ⊙ q) (sym y.0);
          of_B = sym (B_image α) ∙ (B_over α).has ∙ ap (λ q. m (g α) ⊙ q) (sym z.0);
        },
        joined_at βs x.1 y.1 z.1,
      )

      pub joined : Joined F p αs (m₂ G*) (m₂ A*) (m₂ B*)
      joined = record {
        G_within = subst (λ n. Within F n (m₂ G*)) number_is (joined_within _ G_in αs d);
        A_within = subst (λ n. Within F n (m₂ A*)) number_is (joined_within _ (λ α. (A_over α).inside) αs d);
        B_within = subst (λ n. Within F n (m₂ B*)) number_is (joined_within _ (λ α. (B_over α).inside) αs d);
        values = joined_at αs (joined_values _ G_in αs d) (joined_values _ (λ α. (A_over α).inside) αs d) (joined_values _ (λ α. (B_over α).inside) αs d);
      }

      passing : (adds_up K γ a b ps ≡ true) ↔ Passes F p (m₂ G*) (m₂ A*) (m₂ B*)
      passing = (there, back)
        where
          G_degree : deg_y F (m₂ G*) ≡ degree_y G*
          G_degree = field_values.degree_y_is G* G*_in

          left : deg_y F (m₂ G*) + deg_y F (m₂ A*) ≡ degree_y G* + degree_y A*
          left = ap₂ ◌+◌ G_degree (field_values.degree_y_is A* A*_in)

          right : deg_y F (m₂ G*) + deg_y F (m₂ B*) ≡ degree_y G* + degree_y B*
          right = ap₂ ◌+◌ G_degree (field_values.degree_y_is B* B*_in)

          there : adds_up K γ a b ps ≡ true → Passes F p (m₂ G*) (m₂ A*) (m₂ B*)
          there e = let h = and_parts _ _ e in record { left = ap₂ ◌+◌ γ_degree A_degree ∙ eqb-true _ _ h.0 ∙ sym left; right = ap₂ ◌+◌ γ_degree B_degree ∙ eqb-true _ _ h.1 ∙ sym right }

          back : Passes F p (m₂ G*) (m₂ A*) (m₂ B*) → adds_up K γ a b ps ≡ true
          back t = and_from _ _ (eq-eqb _ _ (sym (ap₂ ◌+◌ γ_degree A_degree) ∙ t.left ∙ left)) (eq-eqb _ _ (sym (ap₂ ◌+◌ γ_degree B_degree) ∙ t.right ∙ right))

      tests : (Passes F p (m₂ G*) (m₂ A*) (m₂ B*) × (tested (adds_up K γ a b ps) ≡ passed)) ⊎ ((¬ Passes F p (m₂ G*) (m₂ A*) (m₂ B*)) × (tested (adds_up K γ a b ps) ≡ failed))
      tests = go (adds_up K γ a b ps) refl
        where
          go : (z : Bool) → adds_up K γ a b ps ≡ z → (Passes F p (m₂ G*) (m₂ A*) (m₂ B*) × (tested z ≡ passed)) ⊎ ((¬ Passes F p (m₂ G*) (m₂ A*) (m₂ B*)) × (tested z ≡ failed))
          go true e = inl (passing.0 e, refl)
          go false e = inr (λ t. let f = passing.1 t in let z : ◌≡◌ {A = ℕ} 0 1 = cc in absurd (omega arith), refl)

      module _ {k : ℕ} (s : Sample F p k αs) {G° A° B° : Poly₂ R eq} (j : Joined F p αs G° A° B°) where
        same : Passes F p (m₂ G*) (m₂ A*) (m₂ B*) ↔ Passes F p G° A° B°
        same = let (e, f, h) = (test F).unique p s j joined in (λ t. rw (e, f, h) t, λ t. rw (e, f, h) at t)

        passes : (tested (adds_up K γ a b ps) ≡ passed) ↔ Passes F p G° A° B°
        passes = elim tests [
          | inl y ↦ (λ e. same.0 y.0, λ t. y.1)
          | inr n ↦ (λ e. let z : ◌≡◌ {A = ℕ} 0 1 = cc (e, n.1) in absurd (omega arith), λ t. absurd (n.0 (same.1 t)))
        ]

        fails : (tested (adds_up K γ a b ps) ≡ failed) ↔ (¬ Passes F p G° A° B°)
        fails = elim tests [
          | inl y ↦ (λ e. let z : ◌≡◌ {A = ℕ} 0 1 = cc (e, y.1) in absurd (omega arith), λ n. absurd (n (same.0 y.0)))
          | inr n ↦ (λ e t. n.0 (same.1 t), λ t. n.1)
        ]

    pub right_with : Right F p (codes_of K) (pair_with K γ a b)
    right_with = record {
      element = λ n. refl;
      vanishes = vanishes;
      degree = degrees;
      passes = λ {k} {αs} s j. passes αs s.distinct s.number s j;
      fails = λ {k} {αs} s j. fails αs s.distinct s.number s j;
      closing = ap₂ (λ x y. x + y + 1) (sym γ_degree) (ap₂ max (sym A_degree) (sym B_degree));
      first_ceiling = ap₂ (λ x y. 1 + min x y) (sym (ap (deg_x F) A_is ∙ field_values.degree_x_is a a_in)) (sym (ap (deg_x F) B_is ∙ field_values.degree_x_is b b_in));
    }

  -- Tables of elements.
  module _ (t : List ℕ) (long : length t ≡ 256) (inside : Inside K t) where
    rows_are : Unique (TrimmedYx K) (λ a. m₂ a ≡ table laws t) (rows K t)
    rows_are = table_values.rows_are t long inside

    -- the polynomial is not zero, so that there are rows
    pub rows_some : ¬ (table laws t ≡ 𝟎) → ¬ (rows K t ≡ [])
    rows_some n e = n (sym rows_are.has ∙ ap m₂ e ∙ ring_values.polynomials₂_are.zero_is)

    module _ (n : ¬ (table laws t ≡ 𝟎)) where
      abbrev split : Unique (λ (d : List ℕ × List (List ℕ)). TrimmedY K d.0 × TrimmedYx K d.1) (λ d. ContentOf laws only (rows K t) d.0 d.1) (content K (rows K t), primitive K (rows K t))
      split = field_values.content_is (rows K t) rows_are.inside (rows_some n)

      pub content_in : TrimmedY K (content K (rows K t))
      content_in = split.inside.0

      pub primitive_in : TrimmedYx K (primitive K (rows K t))
      primitive_in = split.inside.1

      pub content_of : Content F (table laws t) (m (content K (rows K t))) (m₂ (primitive K (rows K t)))
      content_of = subst (λ P. Content F P (m (content K (rows K t))) (m₂ (primitive K (rows K t)))) rows_are.has split.has

  -- Over a field, what is computed on two tables of elements is right of the polynomials that they mean.
  module _ (a b : List ℕ) (a_long : length a ≡ 256) (b_long : length b ≡ 256) (a_inside : Inside K a) (b_inside : Inside K b) (p : Prepared F (table laws a) (table laws b)) where
    pub A_nonzero : ¬ (table laws a ≡ 𝟎)
    A_nonzero = whole_nonzero F p.of_A

    pub B_nonzero : ¬ (table laws b ≡ 𝟎)
    B_nonzero = whole_nonzero F p.of_B

    abbrev pub γ : List ℕ
    γ = lead_gcd K (rows K a) (rows K b)

    leads_gcd : Unique (TrimmedY K) (GcdOfLeads laws only (rows K a) (rows K b)) γ
    leads_gcd = field_values.lead_gcd_is (rows K a) (rows K b) (rows_are a a_long a_inside).inside (rows_are b b_long b_inside).inside (rows_some a a_long a_inside A_nonzero) (rows_some b b_long b_inside B_nonzero)

    pub A_parts : (p.content_A ≡ m (content K (rows K a))) × (p.A' ≡ m₂ (primitive K (rows K a)))
    A_parts = (contents F).unique p.of_A (content_of a a_long a_inside A_nonzero)

    pub B_parts : (p.content_B ≡ m (content K (rows K b))) × (p.B' ≡ m₂ (primitive K (rows K b)))
    B_parts = (contents F).unique p.of_B (content_of b b_long b_inside B_nonzero)

    pub γ_in : TrimmedY K γ
    γ_in = leads_gcd.inside

    pub γ_is : p.γ ≡ m γ
    γ_is = greatest_unique (monics F) p.γ_greatest (leads_gcd.has.greatest (back a a_long a_inside p.of_A) (back b b_long b_inside p.of_B)) p.γ_monic leads_gcd.has.monic
      where
        back : (t : List ℕ) (long : length t ≡ 256) (inside : Inside K t) {c : Poly R} {P : Poly₂ R eq} → Content F (table laws t) c P → Content F (m₂ (rows K t)) c P
        back t long inside {c} {P} h = subst (λ X. Content F X c P) (sym (rows_are t long inside).has) h

    right : Right F p (codes_of K) (pair_of K a b)
    unfolding pair_of
    right = right_with p γ (primitive K (rows K a)) (primitive K (rows K b)) γ_in (primitive_in a a_long a_inside A_nonzero) (primitive_in b b_long b_inside B_nonzero) γ_is A_parts.1 B_parts.1

pub pair_right : {K : Arithmetic} (laws : Laws K) (only : IsField K) (a b : List ℕ) → length a ≡ 256 → length b ≡ 256 → Inside K a → Inside K b → (p : Prepared (scalars laws only) (table laws a) (table laws b)) → Right (scalars laws only) p (codes_of K) (pair_of K a b)
pair_right laws only a b a_long b_long a_inside b_inside p = right laws only a b a_long b_long a_inside b_inside p

-- what a job asks, by γ and the primitive parts
pub pair_is : (K : Arithmetic) (a b : List ℕ) → pair_of K a b ≡ pair_with K (lead_gcd K (rows K a) (rows K b)) (primitive K (rows K a)) (primitive K (rows K b))
unfolding pair_of
pair_is K a b = refl

pub pair_element : (K : Arithmetic) (a b : List ℕ) (n : ℕ) → (pair_of K a b).element n ≡ K.element n
unfolding pair_of
pair_element K a b n = refl
