-- The statements on values, for every kind.
use Rattle.std.proofs.Common.{◌≡◌, ℕ, pred, List, sym, ap, ◌∙◌}
use Rattle.coefficients.specs.Arithmetic.{Arithmetic, Laws, IsField}
use Rattle.algebra.specs.Lead as Algebra
use Rattle.algebra.specs.Polynomial.{poly_discrete}
use Rattle.polynomials.specs.Rows.{Inside}
use Rattle.polynomials.specs.Elements.{Element, element_discrete, elements, read, polynomial, polynomials}
use Rattle.polynomials.specs.Relations.{Value}
use Rattle.values.specs.Ops.{Ops, codes, lists, lead, value}
use Rattle.values.specs.Meaning.{In, TrimmedY, polynomial₂}
use Rattle.values.specs.Relations.{Unique}
use Rattle.values.specs.Theorems.{RingValues, TableValues, FieldValues, Values}
use Rattle.values.proofs.Lists as Lists
use Rattle.values.proofs.Lists.{Reading, unique}
use Rattle.values.proofs.Elements as Elements
use Rattle.values.proofs.Elements.{reading_y, reading_yx, inside_all}
use Rattle.values.proofs.Gcd as Gcd
use Rattle.values.proofs.Images as Images
use Rattle.values.proofs.Exact as Exact
use Rattle.values.proofs.Content as Content
use Rattle.values.proofs.Interpolate as Interpolate
use Rattle.values.proofs.Join as Join
use Rattle.values.proofs.Tables as Tables
use Rattle.values.proofs.Rows as Rows

module _ {K : Arithmetic} (laws : Laws K) where
  abbrev O : Ops ℕ
  O = codes K

  abbrev L : Reading O (elements laws) (element_discrete K) (In K) (read laws) (polynomial laws)
  L = reading_y laws

  abbrev L₂ : Reading (lists O) (polynomials laws) (poly_discrete (elements laws) (element_discrete K)) (TrimmedY K) (polynomial laws) (polynomial₂ laws)
  L₂ = reading_yx laws

  lead_is : (xs : List ℕ) → TrimmedY K xs → Unique (In K) (λ c. read laws c ≡ Algebra.lead (elements laws) (polynomial laws xs)) (lead O xs)
  lead_is xs h =
      let i = Lists.lead_in L xs h in
      let e = Lists.lead_is L xs h in
      record { inside = i; has = e; only = λ c k f. Elements.same_element laws c _ k i (f ∙ sym e) }

  value_is : (xs : List ℕ) (a : ℕ) → Inside K xs → In K a → Unique (In K) (Value laws xs a) (value O xs a)
  value_is xs a h k =
      let all = inside_all K xs h in
      let i = Lists.value_in L xs a all k in
      let e = ap (λ (x : Element K). x.0) (sym (Lists.value_is L xs a all k)) ∙ Elements.read_is laws _ i in
      record { inside = i; has = e; only = λ c j f. sym f ∙ e }

  ring_values : RingValues laws
  ring_values = record {
    elements_are = L.codes;
    polynomials_are = L₂.codes;
    polynomials₂_are = Lists.lists_codes L₂;
    trimmed_is = Elements.trimmed_is K;
    trim_is = λ xs h. let all = inside_all K xs h in unique L _ (Lists.trim_in L xs all) _ (Lists.trim_is L xs all);
    scale_is = λ c xs i h. unique L _ (Lists.scale_in L c xs i h) _ (Lists.scale_is L c xs i h);
    lead_is = lead_is;
    value_is = value_is;
    size_is = Lists.size_is L;
    size_x_is = Lists.size_is L₂;
    lead_x_is = λ a h. unique L _ (Lists.lead_in L₂ a h) _ (Lists.lead_is L₂ a h);
    image_is = Images.image_is laws;
    times_is = Images.times_is laws;
  }

  table_values : TableValues laws
  table_values = record {
    rows_are = Tables.rows_are laws;
    rows_fit = Tables.rows_fit K;
    table_in = Tables.table_in laws;
    rows_of_table = Tables.rows_of_table K;
    table_of_rows = Tables.table_of_rows K;
    table_is = Tables.table_is laws;
    image_row = Rows.image_row laws;
  }

  field_values : (only : IsField K) → FieldValues laws only
  field_values only = record {
    degree_is = λ xs h. ap pred (Lists.size_is L xs h);
    degree_x_is = λ a h. ap pred (Lists.size_is L₂ a h);
    degree_y_is = Images.degree_y_is laws only;
    monic_is = Gcd.monic_is laws only;
    divide_is = Gcd.divide_is laws only;
    quotient_is = Gcd.quotient_is laws only;
    gcd_is = Gcd.gcd_is laws only;
    interpolate_is = λ ps vs e h k d. Interpolate.interpolate_is laws only ps vs e (inside_all K ps h) (inside_all K vs k) d;
    content_is = Content.content_is laws only;
    over_is = Exact.over_is laws only;
    quotient_x_is = Exact.quotient_x_is laws only;
    lead_gcd_is = Content.lead_gcd_is laws only;
    join_is = λ ps vs e h k d. Join.join_is laws only ps vs e (inside_all K ps h) k d;
    monic_row = Rows.monic_row laws only;
    divide_row = Rows.divide_row laws only;
    gcd_row = Rows.gcd_row laws only;
  }

pub values : (K : Arithmetic) → Values K
values K laws = (ring_values laws, table_values laws, field_values laws)
