-- Interpolation over a field: Newton's polynomial has the values, and is the only one of its degree that does.
use Rattle.std.proofs.Common.{◌≡◌, ℕ, suc, ◌≤◌, ◌⊎◌, List, [], ◌∷◌, length, sym, refl, ap, ◌∙◌, subst, ap₂, inl, inr, arith}
use Rattle.coefficients.specs.Arithmetic.{Arithmetic, Laws, IsField}
use Rattle.algebra.specs.Ring.{Ring, ring, mul_zero, zero_mul, add_zero, add_neg, sub_zero→eq, combine}
use Rattle.algebra.specs.Lists.{All, Distinct}
use Rattle.algebra.specs.Field.{Field, field_domain}
use Rattle.algebra.specs.Polynomial.{Poly, size, at}
use Rattle.algebra.specs.Change.{number, at_number}
use Rattle.algebra.specs.Solver.{by_ring, quoting}
use Rattle.algebra.proofs.Roots.{roots}
use Rattle.polynomials.specs.Elements.{Element, element_same, element_discrete, elements, read, polynomial, polynomials}
use Rattle.polynomials.specs.Relations.{Value}
use Rattle.values.specs.Ops.{Ops, codes, lists, put, add, mul, scale, value}
use Rattle.values.specs.Values.{root, newton, interpolate}
use Rattle.values.specs.Meaning.{Codes, In, TrimmedY, scalars}
use Rattle.values.specs.Relations.{Pairwise, Unique, ThroughValues}
use Rattle.values.proofs.Grow.{grow_at, number_small, add_size, neg_size, mul_size, at_one_is, at_add_is, at_mul_is, at_neg_is}
use Rattle.values.proofs.Lists.{Reading, put_in, put_is, put_length, add_in, add_is, mul_in, mul_is, scale_in, scale_is, value_in, value_is, each_in, lists_codes, size_is, one_list}
use Rattle.values.proofs.Elements.{read_is, same_element, elements_codes, inverse_in, inverse_is, reading_y}

module _ {K : Arithmetic} (laws : Laws K) where
  abbrev R : Ring (Element K)
  R = elements laws

  abbrev eq : (a b : Element K) → Dec (a ≡ b)
  eq = element_discrete K

  open R use {zero as 𝟘, one as 𝟙, add as ◌⊕◌, neg as ⊖◌, mul as ◌⊙◌}
  open polynomials laws use {add as ◌⊞◌, neg as ⊟◌, mul as ◌⊠◌}

  infixl 60 ◌⊕◌
  infixl 70 ◌⊙◌
  infix 80 ⊖◌
  infixl 60 ◌⊞◌
  infixl 70 ◌⊠◌
  infix 80 ⊟◌
  abbrev O : Ops ℕ
  O = codes K

  abbrev C : Codes O R (In K) (read laws)
  C = elements_codes laws

  abbrev L : Reading O R eq (In K) (read laws) (polynomial laws)
  L = reading_y laws

  abbrev m : List ℕ → Poly R
  m xs = polynomial laws xs

  abbrev Ok : List ℕ → Type 0
  Ok xs = TrimmedY K xs

  -- the value of p at the code a
  abbrev pub eval : ℕ → Poly R → Element K
  eval a p = at R eq (read laws a) p

  -- at the points p has the values
  abbrev pub Meets : List ℕ → List ℕ → Poly R → Type 0
  Meets ps vs p = Pairwise (λ a v. eval a p ≡ read laws v) ps vs

  -- y - a
  root_in : (a : ℕ) → In K a → Ok (root K a)
  root_in a i = put_in L _ _ (laws.difference_in _ _) (put_in L _ [] laws.one_in tt)

  root_size : (a : ℕ) → In K a → size R (m (root K a)) ≤ 2
  root_size a i =
      let s = size_is L (root K a) (root_in a i) in
      let l = put_length O (K.difference K.zero a) (put O K.one []) in
      let k = put_length O K.one [] in
      omega arith

  root_at : (a : ℕ) (x : Element K) → In K a → at R eq x (m (root K a)) ≡ x ⊕ ⊖ read laws a
  root_at a x i =
      ap (at R eq x) (put_is L _ (put O K.one []) (laws.difference_in _ _)) ∙ grow_at R eq _ _ _
      ∙ ap₂ (λ s t. s ⊕ x ⊙ t) (C.difference_is _ _ laws.zero_in i ∙ ap (λ z. z ⊕ ⊖ read laws a) C.zero_is) (ap (at R eq x) (lists_codes L).one_is ∙ at_one_is R eq x)
      ∙ law (read laws a)
    where
      law : (b : Element K) → 𝟘 ⊕ ⊖ b ⊕ x ⊙ 𝟙 ≡ x ⊕ ⊖ b
      law b = simp ring

  -- a multiple of what is zero at the points changes no value there
  meets_more : (ps vs : List ℕ) (p w : Poly R) (c : Element K) → All (λ a. eval a w ≡ 𝟘) ps → Meets ps vs p → Meets ps vs (p ⊞ number R eq c ⊠ w)
  meets_more [] [] p w c z h = tt
  meets_more [] (v ∷ vs) p w c z h = h
  meets_more (a ∷ ps) [] p w c z h = h
  meets_more (a ∷ ps) (v ∷ vs) p w c z h = (
    at_add_is R eq (read laws a) _ _ ∙ ap₂ ◌⊕◌ h.0 (at_mul_is R eq (read laws a) _ _ ∙ ap (λ t. eval a (number R eq c) ⊙ t) z.0 ∙ mul_zero R _) ∙ add_zero R _,
    meets_more ps vs p w c z.1 h.1,
  )

  zeros_more : (ps : List ℕ) (l w : Poly R) → All (λ a. eval a w ≡ 𝟘) ps → All (λ a. eval a (l ⊠ w) ≡ 𝟘) ps
  zeros_more [] l w z = tt
  zeros_more (a ∷ ps) l w z = (at_mul_is R eq (read laws a) l w ∙ ap (λ t. eval a l ⊙ t) z.0 ∙ mul_zero R _, zeros_more ps l w z.1)

  module _ (only : IsField K) where
    abbrev F : Field (Element K)
    F = scalars laws only

    record Newton (ps vs curve node : List ℕ) : Type 0 where
      curve_in : Ok curve
      node_in : Ok node
      curve_size : size R (m curve) ≤ length ps
      node_size : size R (m node) ≤ suc (length ps)
      meets : Meets ps vs (m curve)
      zeros : All (λ a. eval a (m node) ≡ 𝟘) ps
      elsewhere : (b : ℕ) → In K b → All (λ a. ¬ (a ≡ b)) ps → ¬ (eval b (m node) ≡ 𝟘)

    -- one point more
    module _ (a : ℕ) (ps : List ℕ) (v : ℕ) (vs p w : List ℕ) (a_in : In K a) (v_in : In K v) (other : All (λ b. ¬ (b ≡ a)) ps) (N : Newton ps vs p w) where
      pa : ℕ
      pa = value O p a

      wa : ℕ
      wa = value O w a

      c : ℕ
      c = K.product (K.difference v (value O p a)) (K.inverse (value O w a))

      pa_in : In K pa
      unfolding pa
      pa_in = value_in L p a (each_in L p N.curve_in) a_in

      pa_is : read laws pa ≡ eval a (m p)
      unfolding pa
      pa_is = value_is L p a (each_in L p N.curve_in) a_in

      wa_in : In K wa
      unfolding wa
      wa_in = value_in L w a (each_in L w N.node_in) a_in

      wa_is : read laws wa ≡ eval a (m w)
      unfolding wa
      wa_is = value_is L w a (each_in L w N.node_in) a_in

      wa_nonzero : ¬ (read laws wa ≡ 𝟘)
      wa_nonzero z = N.elsewhere a a_in other (sym wa_is ∙ z)

      c_in : In K c
      unfolding c
      c_in = laws.product_in _ _

      c_is : read laws c ≡ (read laws v ⊕ ⊖ read laws pa) ⊙ read laws (K.inverse wa)
      unfolding c pa wa
      c_is = C.product_is _ _ (laws.difference_in _ _) (inverse_in laws only wa wa_in wa_nonzero) ∙ ap (λ z. z ⊙ read laws (K.inverse wa)) (C.difference_is v pa v_in pa_in)

      curve_is : m (add O p (scale O c w)) ≡ m p ⊞ number R eq (read laws c) ⊠ m w
      curve_is = add_is L p _ N.curve_in (scale_in L c w c_in N.node_in) ∙ ap (λ q. m p ⊞ q) (scale_is L c w c_in N.node_in)

      node_is : m (mul O (root K a) w) ≡ m (root K a) ⊠ m w
      node_is = mul_is L (root K a) w (root_in a a_in) N.node_in

      gone : eval a (m (root K a) ⊠ m w) ≡ 𝟘
      gone = at_mul_is R eq (read laws a) _ _ ∙ ap (λ t. t ⊙ eval a (m w)) (root_at a (read laws a) a_in ∙ add_neg R _) ∙ zero_mul R _

      here : eval a (m p ⊞ number R eq (read laws c) ⊠ m w) ≡ read laws v
      here =
          at_add_is R eq (read laws a) _ _
          ∙ ap₂ ◌⊕◌ (sym pa_is) (at_mul_is R eq (read laws a) _ _ ∙ ap₂ ◌⊙◌ (at_number R eq (read laws a) (read laws c) ∙ c_is) (sym wa_is))
          ∙ law (read laws v) (read laws pa) (read laws wa) (read laws (K.inverse wa)) (inverse_is laws only wa wa_in wa_nonzero)
        where
          law : (x y u i : Element K) → u ⊙ i ≡ 𝟙 → y ⊕ (x ⊕ ⊖ y) ⊙ i ⊙ u ≡ x
          law x y u i e = combine R (x ⊕ ⊖ y) e (by_ring R (x ∷ y ∷ u ∷ i ∷ []) (search quoting depth 30) tt)

      away : (b : ℕ) → In K b → ¬ (a ≡ b) → All (λ a. ¬ (a ≡ b)) ps → (eval b (m (root K a)) ≡ 𝟘) ⊎ (eval b (m w) ≡ 𝟘) → ⊥
      away b i n u (inl y) = n (same_element laws a b a_in i (sym (sub_zero→eq R _ _ (sym (root_at a (read laws b) a_in) ∙ y))))
      away b i n u (inr y) = N.elsewhere b i u y

      newton_more : Newton (a ∷ ps) (v ∷ vs) (add O p (scale O c w)) (mul O (root K a) w)
      newton_more = record {
        curve_in = add_in L p _ N.curve_in (scale_in L c w c_in N.node_in);
        node_in = mul_in L (root K a) w (root_in a a_in) N.node_in;
        curve_size =
            (let s = N.curve_size in
            let t = number_small R eq (read laws c) in
            let u = N.node_size in
            let f = add_size R eq (suc (length ps)) (m p) (number R eq (read laws c) ⊠ m w) (omega arith) (mul_size R eq (suc (length ps)) (number R eq (read laws c)) (m w) (omega arith)) in
            let g = ap (size R) curve_is in
            omega arith);
        node_size =
            (let u = N.node_size in
            let l = root_size a a_in in
            let f = mul_size R eq (suc (suc (length ps))) (m (root K a)) (m w) (omega arith) in
            let g = ap (size R) node_is in
            omega arith);
        meets = subst (Meets (a ∷ ps) (v ∷ vs)) (sym curve_is) (here, meets_more ps vs (m p) (m w) (read laws c) N.zeros N.meets);
        zeros = subst (λ (q : Poly R). All (λ b. eval b q ≡ 𝟘) (a ∷ ps)) (sym node_is) (gone, zeros_more ps (m (root K a)) (m w) N.zeros);
        elsewhere = λ b i u z. away b i u.0 u.1 ((field_domain F).cancel _ _ tt tt (sym (at_mul_is R eq (read laws b) (m (root K a)) (m w)) ∙ ap (λ q. eval b q) (sym node_is) ∙ z));
      }

    newton_is : (ps vs : List ℕ) → length ps ≡ length vs → All (In K) ps → All (In K) vs → Distinct ps → Newton ps vs (newton K ps vs).0 (newton K ps vs).1
    unfolding c
    newton_is [] (v ∷ vs) e h k d = absurd (omega arith)
    newton_is (a ∷ ps) [] e h k d = absurd (omega arith)
    newton_is [] [] e h k d = record {
      curve_in = tt;
      node_in = (lists_codes L).one_in;
      curve_size = let z = size_is L [] tt in omega arith;
      node_size = let s = size_is L (lists O).one (lists_codes L).one_in in let l = put_length O K.one [] in omega arith;
      meets = tt;
      zeros = tt;
      elsewhere = λ b i u z. F.zero≢one (sym z ∙ ap (λ q. eval b q) (lists_codes L).one_is ∙ at_one_is R eq (read laws b));
    }
    newton_is (a ∷ ps) (v ∷ vs) e h k d = newton_more a ps v vs _ _ h.0 k.0 d.0 (newton_is ps vs (omega arith) h.1 k.1 d.1)

    -- only one
    meanings : List ℕ → List (Element K)
    meanings [] = []
    meanings (a ∷ ps) = read laws a ∷ meanings ps

    meanings_length : (ps : List ℕ) → length (meanings ps) ≡ length ps
    unfolding meanings
    meanings_length [] = refl
    meanings_length (a ∷ ps) = ap suc (meanings_length ps)

    meanings_all : (P : Element K → Type 0) (ps : List ℕ) → All (λ a. P (read laws a)) ps → All P (meanings ps)
    unfolding meanings
    meanings_all P [] h = tt
    meanings_all P (a ∷ ps) h = (h.0, meanings_all P ps h.1)

    meanings_distinct : (ps : List ℕ) → All (In K) ps → Distinct ps → Distinct (meanings ps)
    unfolding meanings
    meanings_distinct [] h d = tt
    meanings_distinct (a ∷ ps) h d = (meanings_all (λ b. ¬ (b ≡ read laws a)) ps (others ps h.1 d.0), meanings_distinct ps h.1 d.1)
      where
        others : (ps : List ℕ) → All (In K) ps → All (λ b. ¬ (b ≡ a)) ps → All (λ b. ¬ (read laws b ≡ read laws a)) ps
        others [] i d = tt
        others (b ∷ ps) i d = (λ e. d.0 (same_element laws b a i.0 h.0 e), others ps i.1 d.1)

    -- polynomials that agree at more points than their degrees are equal
    pub agree : (ps : List ℕ) → All (In K) ps → Distinct ps → (p q : Poly R) → size R p ≤ length ps → size R q ≤ length ps → All (λ a. eval a p ≡ eval a q) ps → p ≡ q
    agree ps h d p q l k e =
        let n = meanings_length ps in
        let s = add_size R eq (length ps) p (⊟ q) l (neg_size R eq (length ps) q k) in
        sub_zero→eq (polynomials laws) p q (roots F (meanings ps) (p ⊞ ⊟ q) (meanings_distinct ps h d) (meanings_all (λ x. at R eq x (p ⊞ ⊟ q) ≡ 𝟘) ps (differ ps e)) (omega arith))
      where
        differ : (qs : List ℕ) → All (λ a. eval a p ≡ eval a q) qs → All (λ a. eval a (p ⊞ ⊟ q) ≡ 𝟘) qs
        differ [] e = tt
        differ (a ∷ qs) e = (at_add_is R eq (read laws a) p (⊟ q) ∙ ap₂ ◌⊕◌ e.0 (at_neg_is R eq (read laws a) q) ∙ add_neg R _, differ qs e.1)

    -- values as codes
    meets_values : (ps vs c : List ℕ) → All (In K) vs → Meets ps vs (m c) → Pairwise (Value laws c) ps vs
    meets_values [] [] c h t = tt
    meets_values [] (v ∷ vs) c h t = t
    meets_values (a ∷ ps) [] c h t = t
    meets_values (a ∷ ps) (v ∷ vs) c h t = (ap (λ (x : Element K). x.0) t.0 ∙ read_is laws v h.0, meets_values ps vs c h.1 t.1)

    values_agree : (ps vs c e : List ℕ) → Pairwise (Value laws c) ps vs → Pairwise (Value laws e) ps vs → All (λ a. eval a (m c) ≡ eval a (m e)) ps
    values_agree [] vs c e s t = tt
    values_agree (a ∷ ps) [] c e s t = absurd s
    values_agree (a ∷ ps) (v ∷ vs) c e s t = (element_same K (s.0 ∙ sym t.0), values_agree ps vs c e s.1 t.1)

    -- the curve, with the values as elements
    pub curve : (ps vs : List ℕ) → length ps ≡ length vs → All (In K) ps → All (In K) vs → Distinct ps → Ok (interpolate K ps vs) × (size R (m (interpolate K ps vs)) ≤ length ps) × Meets ps vs (m (interpolate K ps vs))
    curve ps vs e h k d = let N = newton_is ps vs e h k d in (N.curve_in, N.curve_size, N.meets)

    pub interpolate_is : (ps vs : List ℕ) → length ps ≡ length vs → All (In K) ps → All (In K) vs → Distinct ps → Unique (TrimmedY K) (ThroughValues laws ps vs) (interpolate K ps vs)
    interpolate_is ps vs e h k d =
        let (inside, small, meets) = curve ps vs e h k d in
        let has : ThroughValues laws ps vs (interpolate K ps vs) = record { small = small; meets = meets_values ps vs _ k meets } in
        record { inside = inside; has = has; only = λ c i t. one_list L c _ i inside (agree ps h d _ _ t.small small (values_agree ps vs c _ t.meets has.meets)) }
