-- Joining over a field: rows have the images at the points, and are the only ones of their degree in y that do.
use Rattle.std.proofs.Common.{◌≡◌, ℕ, zero, suc, ◌≤◌, List, [], ◌∷◌, length, sym, refl, ap, ◌∙◌, subst, ap₂, arith}
use mathlib.Core.Path.{fun_ext}
use Rattle.coefficients.specs.Arithmetic.{Arithmetic, Laws, IsField}
use Rattle.algebra.specs.Ring.{Ring}
use Rattle.algebra.specs.Lists.{All, Distinct}
use Rattle.algebra.specs.Field.{Field}
use Rattle.algebra.specs.Polynomial.{Poly, poly_discrete, same, size}
use Rattle.algebra.specs.Change.{Poly₂, image as image-hom}
use Rattle.bivariate.specs.Degrees.{Within}
use Rattle.polynomials.specs.Elements.{Element, element_discrete, elements, read, polynomial, polynomials}
use Rattle.values.specs.Ops.{codes, lists}
use Rattle.values.specs.Values.{width, interpolate, firsts, rests, join_rows, join}
use Rattle.values.specs.Meaning.{In, TrimmedY, TrimmedYx, polynomial₂, scalars}
use Rattle.values.specs.Relations.{Pairwise, Unique, ThroughImages}
use Rattle.values.proofs.Grow.{grow, grow_image, grow_zero, grow_first, grow_rest, image_at}
use Rattle.values.proofs.Lists.{Reading, put_in, put_is, one_list}
use Rattle.values.proofs.Elements.{elements_codes, reading_y, reading_yx}
use Rattle.values.proofs.Images.{within_width}
use Rattle.values.proofs.Interpolate.{eval, Meets, agree, curve}

module _ {K : Arithmetic} (laws : Laws K) (only : IsField K) where
  abbrev R : Ring (Element K)
  R = elements laws

  abbrev eq : (a b : Element K) → Dec (a ≡ b)
  eq = element_discrete K

  abbrev eq₂ : (p q : Poly R) → Dec (p ≡ q)
  eq₂ = poly_discrete R eq

  abbrev F : Field (Element K)
  F = scalars laws only

  abbrev L : Reading (codes K) R eq (In K) (read laws) (polynomial laws)
  L = reading_y laws

  abbrev L₂ : Reading (lists (codes K)) (polynomials laws) eq₂ (TrimmedY K) (polynomial laws) (polynomial₂ laws)
  L₂ = reading_yx laws

  abbrev m : List ℕ → Poly R
  m xs = polynomial laws xs

  abbrev m₂ : List (List ℕ) → Poly₂ R eq
  m₂ rows = polynomial₂ laws rows

  abbrev Ok : List ℕ → Type 0
  Ok xs = TrimmedY K xs

  -- at the points P has the images
  abbrev Meets₂ : List ℕ → List (List ℕ) → Poly₂ R eq → Type 0
  Meets₂ ps vs P = Pairwise (λ a v. (image-hom R eq (read laws a)).map P ≡ m v) ps vs

  firsts_in : (vs : List (List ℕ)) → All Ok vs → All (In K) (firsts K vs)
  firsts_in [] h = tt
  firsts_in ([] ∷ vs) h = (laws.zero_in, firsts_in vs h.1)
  firsts_in ((x ∷ xs) ∷ vs) h = (h.0.0, firsts_in vs h.1)

  rests_in : (vs : List (List ℕ)) → All Ok vs → All Ok (rests K vs)
  rests_in [] h = tt
  rests_in ([] ∷ vs) h = (tt, rests_in vs h.1)
  rests_in ((x ∷ xs) ∷ vs) h = (h.0.1, rests_in vs h.1)

  firsts_length : (vs : List (List ℕ)) → length (firsts K vs) ≡ length vs
  firsts_length [] = refl
  firsts_length ([] ∷ vs) = ap suc (firsts_length vs)
  firsts_length ((x ∷ xs) ∷ vs) = ap suc (firsts_length vs)

  rests_length : (vs : List (List ℕ)) → length (rests K vs) ≡ length vs
  rests_length [] = refl
  rests_length ([] ∷ vs) = ap suc (rests_length vs)
  rests_length ((x ∷ xs) ∷ vs) = ap suc (rests_length vs)

  rests_width : (vs : List (List ℕ)) (n : ℕ) → width vs ≤ suc n → width (rests K vs) ≤ n
  rests_width [] n l = omega arith
  rests_width ([] ∷ vs) n l = let i = rests_width vs n (omega arith) in omega arith
  rests_width ((x ∷ xs) ∷ vs) n l = let i = rests_width vs n (omega arith) in omega arith

  -- the constants and the rests, put together
  meets_grow : (ps : List ℕ) (vs : List (List ℕ)) (c : Poly R) (P : Poly₂ R eq) → Meets laws ps (firsts K vs) c → Meets₂ ps (rests K vs) P → Meets₂ ps vs (grow (polynomials laws) eq₂ c P)
  meets_grow [] [] c P h k = tt
  meets_grow [] ([] ∷ vs) c P h k = h
  meets_grow [] ((x ∷ xs) ∷ vs) c P h k = h
  meets_grow (a ∷ ps) [] c P h k = h
  meets_grow (a ∷ ps) ([] ∷ vs) c P h k = (grow_image R eq (read laws a) c P ∙ ap₂ (grow R eq) (h.0 ∙ (elements_codes laws).zero_is) (k.0 ∙ L.none) ∙ grow_zero R eq ∙ sym L.none, meets_grow ps vs c P h.1 k.1)
  meets_grow (a ∷ ps) ((x ∷ xs) ∷ vs) c P h k = (grow_image R eq (read laws a) c P ∙ ap₂ (grow R eq) h.0 k.0 ∙ sym (L.more x xs), meets_grow ps vs c P h.1 k.1)

  meets_none : (ps : List ℕ) (vs : List (List ℕ)) → length ps ≡ length vs → width vs ≤ 0 → Meets₂ ps vs (m₂ [])
  meets_none [] [] e l = tt
  meets_none [] (v ∷ vs) e l = absurd (omega arith)
  meets_none (a ∷ ps) [] e l = absurd (omega arith)
  meets_none (a ∷ ps) ([] ∷ vs) e l = (ap (image-hom R eq (read laws a)).map L₂.none ∙ (image-hom R eq (read laws a)).map_zero ∙ sym L.none, meets_none ps vs (omega arith) (omega arith))
  meets_none (a ∷ ps) ((x ∷ xs) ∷ vs) e l = absurd (omega arith)

  grow_within : (n : ℕ) (c : Poly R) (P : Poly₂ R eq) → size R c ≤ n → Within F n P → Within F n (grow (polynomials laws) eq₂ c P)
  grow_within n c P l w zero = let z = ap (size R) (grow_first (polynomials laws) eq₂ c P) in omega arith
  grow_within n c P l w (suc k) = let z = ap (size R) (grow_rest (polynomials laws) eq₂ c P k) in let i = w k in omega arith

  record Joined (ps : List ℕ) (vs rows : List (List ℕ)) : Type 0 where
    inside : TrimmedYx K rows
    small : Within F (length ps) (m₂ rows)
    meets : Meets₂ ps vs (m₂ rows)

  joined : (n : ℕ) (ps : List ℕ) (vs : List (List ℕ)) → width vs ≤ n → length ps ≡ length vs → All (In K) ps → All Ok vs → Distinct ps → Joined ps vs (join_rows K n ps vs)
  joined zero ps vs l e h k d = record { inside = tt; small = within_width laws only [] tt (length ps) (omega arith); meets = meets_none ps vs e l }
  joined (suc n) ps vs l e h k d =
      let fl = firsts_length vs in
      let rl = rests_length vs in
      let (row_in, row_small, row_meets) = curve laws only ps (firsts K vs) (omega arith) h (firsts_in vs k) d in
      let t = joined n ps (rests K vs) (rests_width vs n l) (omega arith) h (rests_in vs k) d in
      let row = interpolate K ps (firsts K vs) in
      let rows = join_rows K n ps (rests K vs) in
      let is = put_is L₂ row rows row_in in
      record {
        inside = put_in L₂ row rows row_in t.inside;
        small = subst (Within F (length ps)) (sym is) (grow_within (length ps) (m row) (m₂ rows) row_small t.small);
        meets = subst (Meets₂ ps vs) (sym is) (meets_grow ps vs (m row) (m₂ rows) row_meets t.meets);
      }

  -- only one
  images_agree : (ps : List ℕ) (vs : List (List ℕ)) (P Q : Poly₂ R eq) → Meets₂ ps vs P → Meets₂ ps vs Q → (k : ℕ) → All (λ a. eval laws a (P.0 k) ≡ eval laws a (Q.0 k)) ps
  images_agree [] vs P Q x y k = tt
  images_agree (a ∷ ps) [] P Q x y k = absurd x
  images_agree (a ∷ ps) (v ∷ vs) P Q x y k = (sym (image_at R eq (read laws a) P k) ∙ ap (λ (r : Poly R). r.0 k) (x.0 ∙ sym y.0) ∙ image_at R eq (read laws a) Q k, images_agree ps vs P Q x.1 y.1 k)

  pub join_is : (ps : List ℕ) (vs : List (List ℕ)) → length ps ≡ length vs → All (In K) ps → All Ok vs → Distinct ps → Unique (TrimmedYx K) (ThroughImages laws only ps vs) (join K ps vs)
  join_is ps vs e h k d =
      let t = joined (width vs) ps vs (omega arith) e h k d in
      record {
        inside = t.inside;
        has = record { small = t.small; meets = t.meets };
        only = λ rows i s. one_list L₂ rows _ i t.inside (same (polynomials laws) eq₂ (fun_ext λ k. agree laws only ps h d _ _ (s.small k) (t.small k) (images_agree ps vs (m₂ rows) _ s.meets t.meets k)));
      }
