-- Rows of elements, with or without zeros at the end: where they have a relation, the trimmed rows are the values.
use Rattle.std.proofs.Common.{◌≡◌, ℕ, List, [], length, sym, ap, ◌∙◌, subst, ap₂, arith}
use Rattle.coefficients.specs.Arithmetic.{Arithmetic, Laws, IsField}
use Rattle.algebra.specs.Ring.{Ring}
use Rattle.algebra.specs.Divisors.{Associates, Greatest}
use Rattle.algebra.specs.Lead.{Normal}
use Rattle.algebra.specs.Polynomial.{Poly, size}
use Rattle.algebra.specs.Change.{image as image-hom}
use Rattle.polynomials.specs.Rows.{Inside}
use Rattle.polynomials.specs.Elements.{Element, element_discrete, elements, read, polynomial, polynomials}
use Rattle.polynomials.specs.Relations.{Image, Quotient, NormalOf, MonicGcd}
use Rattle.values.specs.Ops.{codes, trim}
use Rattle.values.specs.Values.{image, monic, divide, gcd}
use Rattle.values.specs.Tables.{rows}
use Rattle.values.specs.Meaning.{In, TrimmedY}
use Rattle.values.proofs.Lists.{Reading, trim_in, trim_is, size_is}
use Rattle.values.proofs.Elements.{reading_y, inside_all}
use Rattle.values.proofs.Images.{image_is}
use Rattle.values.proofs.Gcd.{monic_is, divide_is, gcd_is}
use Rattle.values.proofs.Tables.{rows_are}

module _ {K : Arithmetic} (laws : Laws K) where
  open polynomials laws use {add as ◌⊞◌, mul as ◌⊠◌}

  infixl 60 ◌⊞◌
  infixl 70 ◌⊠◌
  abbrev R : Ring (Element K)
  R = elements laws

  abbrev L : Reading (codes K) R (element_discrete K) (In K) (read laws) (polynomial laws)
  L = reading_y laws

  abbrev m : List ℕ → Poly R
  m xs = polynomial laws xs

  abbrev t : List ℕ → List ℕ
  t xs = trim (codes K) xs

  pub t_in : (xs : List ℕ) → Inside K xs → TrimmedY K (t xs)
  t_in xs h = trim_in L xs (inside_all K xs h)

  pub t_is : (xs : List ℕ) → Inside K xs → m (t xs) ≡ m xs
  t_is xs h = trim_is L xs (inside_all K xs h)

  pub image_row : (T : List ℕ) (α : ℕ) (l : List ℕ) → length T ≡ 256 → Inside K T → In K α → Inside K l → Image laws T α l → t l ≡ image K (rows K T) α
  image_row T α l e h i k is =
      let a = rows_are laws T e h in
      (image_is laws (rows K T) α a.inside i).only (t l) (t_in l k) (ap (image-hom R (element_discrete K) (read laws α)).map a.has ∙ is ∙ sym (t_is l k))

  module _ (only : IsField K) where
    pub monic_row : (f d : List ℕ) → Inside K f → Inside K d → NormalOf laws f d → t d ≡ monic K (t f)
    monic_row f d h k n = (monic_is laws only (t f) (t_in f h)).only (t d) (t_in d k) (record {
      associates = subst (λ (p : Poly R). Associates (polynomials laws) p (m (t d))) (sym (t_is f h)) (subst (Associates (polynomials laws) (m f)) (sym (t_is d k)) n.associates);
      normal = subst (Normal R) (sym (t_is d k)) n.normal;
    })

    pub divide_row : (f g q r : List ℕ) → Inside K f → Inside K g → Inside K q → Inside K r → Quotient laws f g q r → (t q, t r) ≡ divide K (t f) (t g)
    divide_row f g q r hf hg hq hr d =
        let rs = ap (size R) (t_is r hr) in
        let gs = ap (size R) (t_is g hg) in
        let less = d.less in
        (divide_is laws only (t f) (t g) (t_in f hf) (t_in g hg) (λ e. let z = ap (λ l. size R (m l)) e in let n = size_is L [] tt in omega arith)).only (t q, t r) (t_in q hq, t_in r hr)
        (record { is = t_is f hf ∙ d.is ∙ sym (ap₂ ◌⊞◌ (ap₂ ◌⊠◌ (t_is q hq) (t_is g hg)) (t_is r hr)); less = omega arith })

    pub gcd_row : (a b d : List ℕ) → Inside K a → Inside K b → Inside K d → MonicGcd laws a b d → t d ≡ gcd K (t a) (t b)
    gcd_row a b d ha hb hd g = (gcd_is laws only (t a) (t b) (t_in a ha) (t_in b hb)).only (t d) (t_in d hd) (record {
      greatest = subst (λ (p : Poly R). Greatest (polynomials laws) p (m (t b)) (m (t d))) (sym (t_is a ha)) (subst (λ (p : Poly R). Greatest (polynomials laws) (m a) p (m (t d))) (sym (t_is b hb)) (subst (Greatest (polynomials laws) (m a) (m b)) (sym (t_is d hd)) g.greatest));
      normal = subst (Normal R) (sym (t_is d hd)) g.normal;
    })
