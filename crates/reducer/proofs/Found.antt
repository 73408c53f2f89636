-- Over a field: what is found of two tables is what the rules compute of them.
use Rattle.std.proofs.Common.{◌≡◌, ℕ, suc, true, List, [], ◌∷◌, map, None, sym, refl, ap, ◌∙◌, subst, ap₂, inl, inr, arith}
use Rattle.coefficients.specs.Arithmetic.{Arithmetic, Laws, IsField}
use Rattle.coefficients.specs.declared.kind.ReciprocalFault.TheVariants.{Foreign, NoReciprocal}
use Rattle.bivariate.specs.Degrees.{deg_x}
use Rattle.brown.specs.Prepared.{Prepared}
use Rattle.brown.specs.Joined.{Passes}
use Rattle.brown.proofs.Images.{images}
use Rattle.brown.proofs.Preparation.{preparation}
use Rattle.polynomials.specs.Elements.{elements, read, table}
use Rattle.polynomials.specs.Rows.{Inside}
use Rattle.rules.specs.Job.{zero_lead, image, passed, failed}
use Rattle.method.specs.Right.{Right}
use Rattle.tables.specs.declared.faults.DivisionFault.{DivisionFault}
use Rattle.tables.specs.declared.faults.DivisionFault.TheVariants.{Reciprocal, Uneven}
use Rattle.tables.proofs.Points.{code_read}
use Rattle.values.specs.Meaning.{scalars}
use Rattle.rulebook.specs.Pairs.{codes_of, pair_of}
use Rattle.rulebook.specs.Opening.{opening, Openable}
use Rattle.rulebook.proofs.Opening.{openable}
use Rattle.rulebook.proofs.Right.{pair_right}
use Rattle.steps.specs.declared.prepare.Workings.{Workings}
use Rattle.steps.specs.Faults.{Faulty}
use Rattle.steps.specs.Prepare.{WorkingsOf}
use Rattle.steps.specs.Look.{lead_at, ImagesOf}
use Rattle.steps.specs.Verdict.{Tested}
use Rattle.reducer.specs.Sound.{element_of, Lacks}

-- a fault of a kind that is no field
pub faulty_lacks : (K : Arithmetic) (e : DivisionFault) → Faulty K e → Lacks K (element_of e)
faulty_lacks K (Reciprocal (Foreign c)) (n, (d, is, i, none)) = let z : ◌≡◌ {A = ℕ} 0 1 = cc in absurd (omega arith)
faulty_lacks K (Reciprocal (NoReciprocal c)) (n, (d, is, i, none)) = let e : d ≡ c = cc in (n, inl (subst (λ (x : ℕ). K.element x ≡ true) e i, subst (λ (x : ℕ). (r : ℕ) → K.product x r ≡ K.one → ⊥) e none))
faulty_lacks K Uneven n = (n, inr refl)

pub faulty_field : (K : Arithmetic) (e : DivisionFault) → Faulty K e → IsField K → ⊥
faulty_field K (Reciprocal e) (n, t) only = n only
faulty_field K Uneven n only = n only

-- the codes of what codes mean
map_read : {K : Arithmetic} (laws : Laws K) (l : List ℕ) → Inside K l → map (codes_of K).code (map (read laws) l) ≡ l
map_read laws [] h = refl
map_read laws (x ∷ l) h = ap₂ (λ y m. y ∷ m) (code_read laws x (h 0 (omega arith))) (map_read laws l (λ i lt. h (suc i) (omega arith)))

module _ {K : Arithmetic} (laws : Laws K) (only : IsField K) (a b : List ℕ) (opens : opening K a b ≡ None) where
  can : Openable laws a b
  can = openable laws a b opens

  pub prepared : Prepared (scalars laws only) (table laws a) (table laws b)
  prepared = (preparation (scalars laws only)).prepared (table laws a) (table laws b) can.A_nonzero can.B_nonzero

  right : Right (scalars laws only) prepared (codes_of K) (pair_of K a b)
  right = pair_right laws only a b can.A_long can.B_long can.A_inside can.B_inside prepared

  pub found_vanishing : (α : ℕ) → K.element α ≡ true → lead_at laws only prepared α ≡ (elements laws).zero → (pair_of K a b).at_point α ≡ zero_lead
  found_vanishing α αi e = ap (pair_of K a b).at_point (sym (code_read laws α αi)) ∙ (right.vanishes (read laws α)).1 e

  pub found_image : (α k : ℕ) (d l r : List ℕ) → K.element α ≡ true → ImagesOf K a b α k d l r → (pair_of K a b).at_point α ≡ image k
  found_image α k d l r αi t =
      let m = t.are laws only prepared in
      ap (pair_of K a b).at_point (sym (code_read laws α αi)) ∙ right.degree (read laws α) m.stands m.g m.image ∙ ap image m.degree

  pub found_passed : (k : ℕ) (points : List ℕ) → Inside K points → Tested laws only prepared k points (Passes (scalars laws only) prepared) → (pair_of K a b).test points ≡ passed
  found_passed k points h t = ap (pair_of K a b).test (sym (map_read laws points h)) ∙ (right.passes t.sample t.joined).1 t.has

  pub found_failed : (k : ℕ) (points : List ℕ) → Inside K points → Tested laws only prepared k points (λ G* A* B*. ¬ Passes (scalars laws only) prepared G* A* B*) → (pair_of K a b).test points ≡ failed
  found_failed k points h t = ap (pair_of K a b).test (sym (map_read laws points h)) ∙ (right.fails t.sample t.joined).1 t.has

  pub found_closing : (w : Workings) → WorkingsOf K a b w → (pair_of K a b).closing ≡ w.closing
  found_closing w t = right.closing ∙ sym (t.same laws only prepared).closing

-- an image of degree 0 shows that the parts share nothing but constants
pub free_of_x : {K : Arithmetic} (a b : List ℕ) (α k : ℕ) (d l r : List ℕ) → k ≡ 0 → ImagesOf K a b α k d l r → (laws : Laws K) (only : IsField K) (p : Prepared (scalars laws only) (table laws a) (table laws b)) → deg_x (scalars laws only) p.G' ≡ 0
free_of_x a b α k d l r z t laws only p =
    let m = t.are laws only p in
    let le = (images (scalars laws only)).least p (read laws α) m.stands m.g m.image in
    let e = m.degree in
    omega arith
