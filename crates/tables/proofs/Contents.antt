-- The content of the first rows of a table, row by row.
use Rattle.std.proofs.Common.{◌≡◌, ℕ, ◌+◌, ◌*◌, ◌<◌, ◌≤◌, ◌⊎◌, List, length, Ok, Err, sym, ap, ◌∙◌, subst, inl, inr, arith}
use Rattle.std.proofs.lemmas.Bool.{cases_lt}
use Rattle.coefficients.specs.Arithmetic.{Arithmetic, Laws}
use Rattle.coefficients.specs.declared.kind.ReciprocalFault.{ReciprocalFault}
use Rattle.algebra.specs.Ring.{one_mul}
use Rattle.algebra.specs.Divisors.{Divides}
use Rattle.algebra.specs.Lead.{Normal}
use Rattle.algebra.specs.Polynomial.{Poly, size}
use Rattle.algebra.specs.Change.{number, number_one}
use Rattle.algebra.proofs.Divisors.{divides_zero, divides_eq, divides_trans}
use Rattle.algebra.proofs.Degrees.{constant_is}
use Rattle.polynomials.specs.Elements.{element_discrete, elements, polynomial, polynomials, polynomial_xy}
use Rattle.polynomials.specs.Rows.{Inside, Sized, cut_row}
use Rattle.tables.specs.Degrees.{ZeroRow}
use Rattle.polynomials.specs.Steps.{Common}
use Rattle.tables.specs.Content.{Gathering}
use Rattle.polynomials.proofs.Meaning.{size_is, cleared}
use Rattle.tables.proofs.Sizes.{row_inside, of_rows, of_past}

-- d, of size n, is the content of the first i rows
pub record Gathered (K : Arithmetic) (w : ℕ) (t d : List ℕ) (i n : ℕ) : Type 0 where
  pub inside : Inside K t → Inside K d
  pub sized : Inside K t → Sized K d n
  pub divides : (laws : Laws K) → Inside K t → (k : ℕ) → k < i → Divides (polynomials laws) (polynomial laws d) (polynomial laws (cut_row w t k))
  pub greatest : (laws : Laws K) → Inside K t → (x : Poly (elements laws)) → ((k : ℕ) → k < i → Divides (polynomials laws) x (polynomial laws (cut_row w t k))) → Divides (polynomials laws) x (polynomial laws d)
  pub normal : (laws : Laws K) → Inside K t → Normal (elements laws) (polynomial laws d)

pub gathered_none : {K : Arithmetic} (laws : Laws K) (w : ℕ) (t d : List ℕ) → ZeroRow K d → Gathered K w t d 0 0
gathered_none {K} laws w t d z = record {
  inside = λ h. inside;
  sized = λ h. sized;
  divides = λ lw h k lt. absurd (omega arith);
  greatest = λ lw h x all. divides_eq (polynomials lw) (sym (cleared lw d z)) (divides_zero (polynomials lw) x);
  normal = λ lw h ne. absurd (ne (size_is lw d 0 inside sized));
}
  where
    inside : Inside K d
    inside i lt = ap K.element (z i lt) ∙ laws.zero_in

    sized : Sized K d 0
    sized = record { within = omega arith; zeros = λ i le lt. z i lt; lead = λ pos. absurd (omega arith) }

module _ (K : Arithmetic) (w : ℕ) (t : List ℕ) where
  pub gathered_more : (d e d' : List ℕ) (i n m : ℕ) → Gathered K w t d i n → Common K d (cut_row w t i) d' e (Ok m) → Gathered K w t d' (i + 1) m
  gathered_more d e d' i n m u c = record {
    inside = λ h. (c (u.inside h) (row_inside K w t i h)).0;
    sized = λ h. (c (u.inside h) (row_inside K w t i h)).2;
    divides = λ lw h k lt. each lw h k (cases_lt k i) lt;
    greatest = λ lw h x all. ((c (u.inside h) (row_inside K w t i h)).3 lw).greatest.greatest x (u.greatest lw h x (λ k lt. all k (omega arith))) (all i (omega arith));
    normal = λ lw h. ((c (u.inside h) (row_inside K w t i h)).3 lw).normal;
  }
    where
      each : (lw : Laws K) → Inside K t → (k : ℕ) → (k < i) ⊎ (i ≤ k) → k < i + 1 → Divides (polynomials lw) (polynomial lw d') (polynomial lw (cut_row w t k))
      each lw h k (inl l) lt = divides_trans (polynomials lw) ((c (u.inside h) (row_inside K w t i h)).3 lw).greatest.left (u.divides lw h k l)
      each lw h k (inr l) lt =
          let e : i ≡ k = omega arith in
          subst (λ (k : ℕ). Divides (polynomials lw) (polynomial lw d') (polynomial lw (cut_row w t k))) e ((c (u.inside h) (row_inside K w t i h)).3 lw).greatest.right

  pub gathered_refused : (d e d' : List ℕ) (i n : ℕ) (f : ReciprocalFault) → Gathered K w t d i n → Common K d (cut_row w t i) d' e (Err f) → Gathering K w t d' (Err f)
  gathered_refused d e d' i n f u c h = let told = c (u.inside h) (row_inside K w t i h) in (told.0, told.2)

  module _ (long : length t ≡ 16 * w) (d : List ℕ) (i n : ℕ) (u : Gathered K w t d i n) where
    -- a content that divides every other row too is that of all rows
    whole : ((lw : Laws K) → Inside K t → (k : ℕ) → i ≤ k → k < 16 → Divides (polynomials lw) (polynomial lw d) (polynomial lw (cut_row w t k))) → i ≤ 16 → Gathering K w t d (Ok n)
    whole others le h = (
      u.inside h,
      u.sized h,
      λ lw. record {
        divides = λ k. at lw k (cases_lt k i) (cases_lt k 16);
        greatest = λ x all. u.greatest lw h x (λ k lt. divides_eq (polynomials lw) (of_rows lw w t k) (all k));
        normal = u.normal lw h;
      },
    )
      where
        at : (lw : Laws K) (k : ℕ) → (k < i) ⊎ (i ≤ k) → (k < 16) ⊎ (16 ≤ k) → Divides (polynomials lw) (polynomial lw d) ((polynomial_xy lw w t).0 k)
        at lw k (inl l) far = divides_eq (polynomials lw) (sym (of_rows lw w t k)) (u.divides lw h k l)
        at lw k (inr l) (inl near) = divides_eq (polynomials lw) (sym (of_rows lw w t k)) (others lw h k l near)
        at lw k (inr l) (inr far) = divides_eq (polynomials lw) (sym (of_past lw w t k long far)) (divides_zero (polynomials lw) _)

    pub gathered_all : i ≡ 16 → Gathering K w t d (Ok n)
    gathered_all e = whole (λ lw h k le lt. absurd (omega arith)) (omega arith)

    -- one divides every row
    pub gathered_one : i ≤ 16 → n ≡ 1 → Gathering K w t d (Ok n)
    gathered_one le e = whole (λ lw h k far near. (polynomial lw (cut_row w t k), sym (ap (λ x. (polynomials lw).mul x (polynomial lw (cut_row w t k))) (one lw h) ∙ one_mul (polynomials lw) _))) le
      where
        one : (lw : Laws K) → Inside K t → polynomial lw d ≡ (polynomials lw).one
        one lw h =
            let s : size (elements lw) (polynomial lw d) ≡ n = size_is lw d n (u.inside h) (u.sized h) in
            let (m, z, lead) = u.normal lw h (λ none. absurd (omega arith)) in
            let first : m ≡ 0 = omega arith in
            constant_is (elements lw) (element_discrete K) (polynomial lw d) (omega arith) ∙ ap (number (elements lw) (element_discrete K)) (ap (polynomial lw d).0 (sym first) ∙ lead) ∙ number_one (elements lw) (element_discrete K)
