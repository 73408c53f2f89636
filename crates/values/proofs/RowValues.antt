-- The statements on rows of any width, for every kind.
use Rattle.coefficients.specs.Arithmetic.{Arithmetic, Laws, IsField}
use Rattle.values.specs.RowTheorems.{RowValues, FieldRowValues, RowsHold}
use Rattle.values.proofs.Tables as Tables
use Rattle.values.proofs.TableRows as TableRows

module _ {K : Arithmetic} (laws : Laws K) where
  row_values : RowValues laws
  row_values = record {
    rows_of_are = Tables.rows_of_are laws;
    rows_by_16 = Tables.rows_by_16 K;
    lead_rows = TableRows.lead_rows laws;
    times_rows = TableRows.times_rows laws;
  }

  field_row_values : (only : IsField K) → FieldRowValues laws only
  field_row_values only = record {
    content_rows = λ w. TableRows.content_rows laws w only;
    lead_gcd_rows = λ w. TableRows.lead_gcd_rows laws w only;
    over_rows = λ w. TableRows.over_rows laws w only;
    quotient_rows = λ w. TableRows.quotient_rows laws w only;
    joined_rows = TableRows.joined_rows laws only;
  }

pub rows_hold : (K : Arithmetic) → RowsHold K
rows_hold K laws = (row_values laws, field_row_values laws)
