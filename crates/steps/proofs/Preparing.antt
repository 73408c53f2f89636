-- Two tables, prepared: contents, parts, what their leading coefficients share, and the numbers.
use Rattle.std.proofs.Common.{◌≡◌, ℕ, pred, ◌+◌, min, max, List, Ok, Err, sym, ap, ◌∙◌, subst, ap₂, inl, inr, arith}
use Rattle.coefficients.specs.Arithmetic.{Arithmetic, Laws, IsField}
use Rattle.coefficients.specs.declared.kind.ReciprocalFault.{ReciprocalFault}
use Rattle.algebra.specs.Divisors.{Greatest}
use Rattle.algebra.specs.Polynomial.{poly, size}
use Rattle.algebra.proofs.OneUnknown.{gcd}
use Rattle.bivariate.specs.Degrees.{K[y][x], deg, deg_x, deg_y, lead_x, width}
use Rattle.bivariate.specs.TwoUnknowns.{Content}
use Rattle.bivariate.proofs.Contents.{contents}
use Rattle.brown.specs.Prepared.{Prepared}
use Rattle.polynomials.specs.Elements.{element_discrete, elements, polynomial, polynomials, table}
use Rattle.polynomials.specs.Rows.{Inside, Sized}
use Rattle.polynomials.proofs.Meaning.{size_is}
use Rattle.tables.specs.declared.faults.DivisionFault.{DivisionFault}
use Rattle.tables.specs.declared.faults.DivisionFault.TheVariants.{Reciprocal, Uneven}
use Rattle.tables.specs.Content as Tables
use Rattle.tables.specs.Degrees.{SizeX, SizeY}
use Rattle.tables.specs.Lead.{LeadGcd, SharedLeads}
use Rattle.values.specs.Meaning.{scalars}
use Rattle.steps.specs.declared.prepare.Part.{Part}
use Rattle.steps.specs.declared.prepare.Workings.{Workings}
use Rattle.steps.specs.Faults.{Faulty}
use Rattle.steps.specs.Prepare.{PartOf, Parting, SameAs, WorkingsOf}
use Rattle.steps.proofs.Fields.{content_here, width_here}

-- what a content refuses
pub part_refused : {K : Arithmetic} → Laws K → (t held d p : List ℕ) (e : DivisionFault) → Tables.Parting K 16 t held d p (Err e) → Parting K t (Err e)
part_refused laws t held d p (Reciprocal e) told = λ h n.
    let (inside, (c, is, why)) = told h in
    elim why [ inl s ↦ (s.0.no_field, (c, is, s.0.inside, s.0.none)) | inr z ↦ absurd (n laws (z.2 laws)) ]
part_refused laws t held d p Uneven told = λ h n. absurd (told h)

pub part_is : {K : Arithmetic} (t held d p : List ℕ) (n mx my : ℕ) → Tables.Parting K 16 t held d p (Ok n) → SizeX K 16 p mx → SizeY K 16 p my → (part : Part) → part.content ≡ d → part.rows ≡ p → part.degree_x ≡ pred mx → part.degree_y ≡ pred my → Inside K t → PartOf K t part
part_is {K = K} t held d p n mx my told in_x in_y part e f x y h =
    let a = told h in
    let p_in : Inside K part.rows = subst (Inside K) (sym f) a.1 in
    record {
      nonzero = λ laws. (a.3 laws).nonzero;
      content_in = subst (Inside K) (sym e) a.0;
      rows_in = p_in;
      content = λ laws only. subst (λ (l : List ℕ). Content (scalars laws only) (table laws t) (polynomial laws l) (table laws part.rows)) (sym e) (subst (λ (l : List ℕ). Content (scalars laws only) (table laws t) (polynomial laws d) (table laws l)) (sym f) (content_here laws only _ _ _ ((a.3 laws).content only)));
      in_x = λ laws only. ap pred (ap (λ (l : List ℕ). size (polynomials laws) (table laws l)) f ∙ in_x a.1 laws) ∙ sym x;
      in_y = λ laws only. ap pred (ap (λ (l : List ℕ). width (scalars laws only) (table laws l)) f ∙ sym (width_here laws only (table laws p)) ∙ in_y a.1 laws only) ∙ sym y;
    }

-- what the leading coefficients refuse
pub lead_refused : {K : Arithmetic} (a b d : List ℕ) (e : ReciprocalFault) → SharedLeads K 16 a b d (Err e) → Inside K a → Inside K b → Faulty K (Reciprocal e)
lead_refused a b d e told ha hb =
    let (inside, (c, is, s)) = told ha hb in
    (s.no_field, (c, is, s.inside, s.none))

-- the parts and what their leads share are those of the theory
pub workings : {K : Arithmetic} (a b : List ℕ) (w : Workings) (m n : ℕ) → PartOf K a w.left → PartOf K b w.right → SharedLeads K 16 w.left.rows w.right.rows w.lead (Ok m) → Sized K w.lead n →
    w.height_left ≡ pred n + w.left.degree_y → w.height_right ≡ pred n + w.right.degree_y → w.closing ≡ max w.height_left w.height_right + 1 → w.ceiling ≡ min w.left.degree_x w.right.degree_x + 1 → WorkingsOf K a b w
workings {K = K} a b w m n left right told sized left_is right_is closing_is ceiling_is =
    let l = told left.rows_in right.rows_in in
    record { A_nonzero = left.nonzero; B_nonzero = right.nonzero; content_A_in = left.content_in; content_B_in = right.content_in; A_in = left.rows_in; B_in = right.rows_in; γ_in = l.0; same = λ laws only p. same laws only p (l.2 laws) l.0 }
  where
    same : (laws : Laws K) (only : IsField K) (p : Prepared (scalars laws only) (table laws a) (table laws b)) → LeadGcd laws 16 w.left.rows w.right.rows w.lead → Inside K w.lead → SameAs laws only p w
    same laws only p leads inside =
        let F = scalars laws only in
        let (cA, eA) = (contents F).unique (left.content laws only) p.of_A in
        let (cB, eB) = (contents F).unique (right.content laws only) p.of_B in
        let ours : Greatest (poly (elements laws) (element_discrete K)) (lead_x F p.A') (lead_x F p.B') (polynomial laws w.lead) = subst (λ (X : K[y][x] F). Greatest (polynomials laws) (lead_x F X) (lead_x F p.B') (polynomial laws w.lead)) eA (subst (λ (X : K[y][x] F). Greatest (polynomials laws) (lead_x F (table laws w.left.rows)) (lead_x F X) (polynomial laws w.lead)) eB leads.greatest) in
        let γ_is = (gcd F).gcd_unique (lead_x F p.A') (lead_x F p.B') _ _ ours p.γ_greatest leads.normal (λ _. p.γ_monic) in
        let degree : pred n ≡ deg F p.γ = ap pred (sym (size_is laws w.lead n inside sized)) ∙ ap (deg F) γ_is in
        let xA : w.left.degree_x ≡ deg_x F p.A' = sym (left.in_x laws only) ∙ ap (deg_x F) eA in
        let xB : w.right.degree_x ≡ deg_x F p.B' = sym (right.in_x laws only) ∙ ap (deg_x F) eB in
        let yA : w.left.degree_y ≡ deg_y F p.A' = sym (left.in_y laws only) ∙ ap (deg_y F) eA in
        let yB : w.right.degree_y ≡ deg_y F p.B' = sym (right.in_y laws only) ∙ ap (deg_y F) eB in
        record {
          content_A = cA;
          A' = eA;
          content_B = cB;
          B' = eB;
          γ = γ_is;
          height_A = left_is ∙ ap₂ ◌+◌ degree yA;
          height_B = right_is ∙ ap₂ ◌+◌ degree yB;
          closing = closing_is ∙ ap (λ n. n + 1) (ap₂ max (left_is ∙ ap₂ ◌+◌ degree yA) (right_is ∙ ap₂ ◌+◌ degree yB) ∙ shared (deg F p.γ) (deg_y F p.A') (deg_y F p.B'));
          ceiling = ceiling_is ∙ commute _ ∙ ap (λ n. 1 + n) (ap₂ min xA xB);
        }
      where
        commute : (m : ℕ) → m + 1 ≡ 1 + m
        commute m = omega arith

        shared : (d m n : ℕ) → max (d + m) (d + n) ≡ d + max m n
        shared d m n = omega arith
