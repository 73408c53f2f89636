-- What is found at a point: the images of the parts, their greatest common divisor and their cofactors.
use Rattle.std.proofs.Common.{◌≡◌, ℕ, pred, ◌<◌, ◌≤◌, true, ◌⊎◌, List, length, get_or, Ok, Err, sym, ap, ◌∙◌, inl, inr, arith}
use mathlib.Core.Path.{fun_ext}
use Rattle.std.proofs.lemmas.Bool.{cases_lt}
use Rattle.coefficients.specs.Arithmetic.{Arithmetic, Laws, IsField}
use Rattle.algebra.specs.Ring.{mul_zero}
use Rattle.algebra.specs.Field.{Field}
use Rattle.algebra.specs.Polynomial.{Poly, same, at}
use Rattle.algebra.specs.Change.{number}
use Rattle.algebra.proofs.Degrees.{coef_scale}
use Rattle.algebra.proofs.Euclid.{size_zero}
use Rattle.bivariate.specs.Degrees.{K[y][x]}
use Rattle.brown.specs.Prepared.{at_y, Prepared}
use Rattle.brown.specs.Joined.{Image}
use Rattle.brown.proofs.Images.{images}
use Rattle.brown.proofs.Preparation.{preparation}
use Rattle.polynomials.specs.Elements.{Element, element_same, element_discrete, elements, read, coefficients, past_end, polynomial, polynomials, table}
use Rattle.polynomials.specs.Relations.{Value, MonicGcd}
use Rattle.polynomials.specs.Relations as Rows
use Rattle.polynomials.specs.Rows.{Inside, Sized}
use Rattle.polynomials.specs.Steps.{Imaged}
use Rattle.polynomials.proofs.Meaning.{of_polynomial, code_zero, code_at, code_mul, size_is}
use Rattle.tables.specs.declared.faults.DivisionFault.{DivisionFault}
use Rattle.tables.proofs.Points.{code_read}
use Rattle.values.specs.Meaning.{scalars}
use Rattle.steps.specs.declared.prepare.Workings.{Workings}
use Rattle.steps.specs.declared.share.Shares.{Shares}
use Rattle.steps.specs.Faults.{Faulty}
use Rattle.steps.specs.Share.{Shared, Sharing}
use Rattle.steps.specs.Prepare.{SameAs, WorkingsOf}
use Rattle.steps.specs.Look.{lead_at, ImageAt, ImagesOf}

-- a row each of whose codes is v times that of another means v times it
pub scaled : {K : Arithmetic} (laws : Laws K) (v : ℕ) → K.element v ≡ true → (g g' : List ℕ) → Inside K g → Inside K g' → length g' ≡ length g → ((i : ℕ) → i < length g → get_or g' i 0 ≡ K.product v (get_or g i 0)) →
    polynomial laws g' ≡ (polynomials laws).mul (number (elements laws) (element_discrete K) (read laws v)) (polynomial laws g)
scaled {K = K} laws v vi g g' hg hg' len e =
    same (elements laws) (element_discrete K) (of_polynomial laws g' ∙ fun_ext (λ k. place k (cases_lt k (length g)) ∙ sym (coef_scale (elements laws) (element_discrete K) (read laws v) (polynomial laws g) k ∙ ap (λ (f : ℕ → Element K). (elements laws).mul (read laws v) (f k)) (of_polynomial laws g))))
  where
    place : (k : ℕ) → (k < length g) ⊎ (length g ≤ k) → coefficients laws g' k ≡ (elements laws).mul (read laws v) (coefficients laws g k)
    place k (inl lt) = element_same K (code_at laws g' k hg' (omega arith) ∙ e k lt ∙ sym (code_mul laws (read laws v) (coefficients laws g k) ∙ ap (λ x. K.product x (coefficients laws g k).0) (code_read laws v vi) ∙ ap (K.product v) (code_at laws g k hg lt)))
    place k (inr le) = past_end laws g' k (omega arith) ∙ sym (ap ((elements laws).mul (read laws v)) (past_end laws g k le) ∙ mul_zero (elements laws) (read laws v))

pub scaled_in : {K : Arithmetic} → Laws K → (v : ℕ) (g g' : List ℕ) → length g' ≡ length g → ((i : ℕ) → i < length g → get_or g' i 0 ≡ K.product v (get_or g i 0)) → Inside K g'
scaled_in {K = K} laws v g g' len e i lt = ap K.element (e i (omega arith)) ∙ laws.product_in _ _

-- Over a field, the images of prepared tables at a point.
module _ {K : Arithmetic} (laws : Laws K) (only : IsField K) {A B : K[y][x] (scalars laws only)} (p : Prepared (scalars laws only) A B) (w : Workings) (s : SameAs laws only p w) (α : ℕ) (ia ib : List ℕ) (at_A : Rows.Image laws w.left.rows α ia) (at_B : Rows.Image laws w.right.rows α ib) where
  abbrev F : Field (Element K)
  F = scalars laws only

  open polynomials laws use {zero as 𝟘, mul as ◌⊙◌}

  infixl 70 ◌⊙◌
  pub left_image : at_y F (read laws α) p.A' ≡ polynomial laws ia
  left_image = ap (at_y F (read laws α)) (sym s.A') ∙ at_A

  pub right_image : at_y F (read laws α) p.B' ≡ polynomial laws ib
  right_image = ap (at_y F (read laws α)) (sym s.B') ∙ at_B

  pub gcd_image : (d : List ℕ) → MonicGcd laws ia ib d → ¬ (polynomial laws d ≡ 𝟘) → Image F p (read laws α) (polynomial laws d)
  gcd_image d m n = record {
    monic = m.normal (λ e. n (size_zero (elements laws) (element_discrete K) (polynomial laws d) e));
    greatest = rw (left_image, right_image) m.greatest;
  }

-- the images that are left, scaled by the value of γ
pub images_are : {K : Arithmetic} → Laws K → (w : Workings) (α v : ℕ) (ia ib d : List ℕ) (s : Shares) (k : ℕ) → length w.left.rows ≡ 256 → length w.right.rows ≡ 256 →
    Imaged K w.left.rows α ia → Imaged K w.right.rows α ib → Sharing K ia ib (Ok s) → length d ≡ length s.rows.divisor → ((i : ℕ) → i < length s.rows.divisor → get_or d i 0 ≡ K.product v (get_or s.rows.divisor i 0)) → k ≡ pred s.size →
    (a b : List ℕ) → WorkingsOf K a b w → K.element α ≡ true → K.element v ≡ true → ((laws : Laws K) → Value laws w.lead α v) → ¬ (v ≡ K.zero) → ImagesOf K a b α k d s.rows.left s.rows.right
images_are {K = K} laws₀ w α v ia ib d s k long_A long_B of_A of_B sharing len times degree a b wk αi vi value nonzero =
    let fa = of_A long_A wk.A_in αi in
    let fb = of_B long_B wk.B_in αi in
    let c = sharing fa.0 fb.0 in
    let inside = scaled_in laws₀ v s.rows.divisor d len times in
    record { divisor_in = inside; left_in = c.elements.left_in; right_in = c.elements.right_in; are = λ laws only p. are laws only p (fa.1 laws) (fb.1 laws) c.elements.divisor_in inside c.sized (c.shared laws) }
  where
    are : (laws : Laws K) (only : IsField K) (p : Prepared (scalars laws only) (table laws a) (table laws b)) → Rows.Image laws w.left.rows α ia → Rows.Image laws w.right.rows α ib → Inside K s.rows.divisor → Inside K d → Sized K s.rows.divisor s.size → Shared laws ia ib s.rows → ImageAt laws only p α k d s.rows.left s.rows.right
    are laws only p image_A image-B c_in d-in sized t =
        let m = wk.same laws only p in
        let code : v ≡ (lead_at laws only p α).0 = sym (value laws) ∙ ap (λ (q : Poly (elements laws)). (at (elements laws) (element_discrete K) (read laws α) q).0) m.γ in
        let lead : read laws v ≡ lead_at laws only p α = element_same K (code_read laws v vi ∙ code) in
        record {
          stands = λ z. nonzero (code ∙ ap (λ (x : Element K). x.0) z ∙ code_zero laws);
          g = polynomial laws s.rows.divisor;
          image = gcd_image laws only p w m α ia ib image_A image-B s.rows.divisor t.gcd t.nonzero;
          degree = ap pred (size_is laws s.rows.divisor s.size c_in sized) ∙ sym degree;
          divisor = scaled laws v vi s.rows.divisor d c_in d-in len times ∙ ap (λ (x : Element K). (polynomials laws).mul (number (elements laws) (element_discrete K) x) (polynomial laws s.rows.divisor)) lead;
          left = left_image laws only p w m α ia ib image_A image-B ∙ t.left;
          right = right_image laws only p w m α ia ib image_A image-B ∙ t.right;
        }

-- over a field no image is zero
pub images_refused : {K : Arithmetic} (w : Workings) (α : ℕ) (ia ib : List ℕ) (e : DivisionFault) → length w.left.rows ≡ 256 → length w.right.rows ≡ 256 → Imaged K w.left.rows α ia → Imaged K w.right.rows α ib → Sharing K ia ib (Err e) →
    (a b : List ℕ) → WorkingsOf K a b w → K.element α ≡ true → Faulty K e
images_refused {K = K} w α ia ib e long_A long_B of_A of_B told a b wk αi =
    let fa = of_A long_A wk.A_in αi in
    let fb = of_B long_B wk.B_in αi in
    told fa.0 fb.0 (λ only laws z.
    let p = (preparation (scalars laws only)).prepared (table laws a) (table laws b) (wk.A_nonzero laws) (wk.B_nonzero laws) in
    (images (scalars laws only)).A_nonzero p (read laws α) (left_image laws only p w (wk.same laws only p) α ia ib (fa.1 laws) (fb.1 laws) ∙ z))
