-- What two rows share: the faults that a field never gives.
use Rattle.std.proofs.Common.{◌≡◌, ℕ, zero, suc, List, Ok, Err, ap, ◌∙◌, inl, arith}
use Rattle.coefficients.specs.Arithmetic.{Arithmetic, Laws, IsField}
use Rattle.coefficients.specs.declared.kind.ReciprocalFault.{ReciprocalFault}
use Rattle.algebra.specs.Ring.{zero_mul}
use Rattle.polynomials.specs.Elements.{polynomial, polynomials}
use Rattle.polynomials.specs.Relations.{MonicGcd}
use Rattle.polynomials.specs.Rows.{Inside, Sized}
use Rattle.polynomials.specs.Steps.{Common, Undivided}
use Rattle.polynomials.proofs.Meaning.{cleared}
use Rattle.polynomials.proofs.Inverse.{stuck}
use Rattle.tables.specs.declared.faults.DivisionFault.{DivisionFault}
use Rattle.tables.specs.declared.faults.DivisionFault.TheVariants.{Reciprocal, Uneven}
use Rattle.tables.specs.Content.{Even}
use Rattle.steps.specs.Share.{Sharing}

-- zero divides only zero
divided_zero : {K : Arithmetic} (laws : Laws K) (a b d : List ℕ) → MonicGcd laws a b d → polynomial laws d ≡ (polynomials laws).zero → polynomial laws a ≡ (polynomials laws).zero
divided_zero laws a b d m z = let (q, e) = m.greatest.left in e ∙ ap (λ x. (polynomials laws).mul x q) z ∙ zero_mul (polynomials laws) q

-- the leading coefficient of what is shared has no reciprocal
pub lead_refused : {K : Arithmetic} (laws : Laws K) (a b d rest : List ℕ) (m n : ℕ) (e : ReciprocalFault) → Common K a b d rest (Ok m) → Sized K d n → Undivided K d e → Sharing K a b (Err (Reciprocal e))
lead_refused {K = K} laws a b d rest m n e shared sized told = λ ha hb nonzero.
    let c = shared ha hb in
    let (x, is, bad) = told c.0 in
    (λ only. go n sized c.0 (c.3 laws) only (nonzero only laws), (x, is, bad.inside, bad.none))
  where
    go : (n : ℕ) → Sized K d n → Inside K d → MonicGcd laws a b d → IsField K → ¬ (polynomial laws a ≡ (polynomials laws).zero) → ⊥
    go zero s h g only nonzero = nonzero (divided_zero laws a b d g (cleared laws d (λ i lt. s.zeros i (omega arith) lt)))
    go (suc n) s h g only nonzero = let (c, is, t) = stuck K d (suc n) (omega arith) s h e told in t.no_field only

-- over a field the division by what is shared comes out even
pub left_refused : {K : Arithmetic} (laws : Laws K) (a b d rest held q : List ℕ) (m n : ℕ) (e : DivisionFault) → Common K a b d rest (Ok m) → Sized K d n → Even K a d held q (Err e) → Sharing K a b (Err e)
left_refused laws a b d rest held q m n (Reciprocal e) shared sized told = lead_refused laws a b d rest m n e shared sized told.0
left_refused laws a b d rest held q m n Uneven shared sized uneven = λ ha hb nonzero only. let c = shared ha hb in ((uneven ha c.0).1 laws).1 (inl only) (c.3 laws).greatest.left

pub right_refused : {K : Arithmetic} (laws : Laws K) (a b d rest held q : List ℕ) (m n : ℕ) (e : DivisionFault) → Common K a b d rest (Ok m) → Sized K d n → Even K b d held q (Err e) → Sharing K a b (Err e)
right_refused laws a b d rest held q m n (Reciprocal e) shared sized told = lead_refused laws a b d rest m n e shared sized told.0
right_refused laws a b d rest held q m n Uneven shared sized uneven = λ ha hb nonzero only. let c = shared ha hb in ((uneven hb c.0).1 laws).1 (inl only) (c.3 laws).greatest.right
