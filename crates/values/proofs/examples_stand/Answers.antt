use Rattle.std.proofs.Common.{refl}
use Rattle.coefficients.specs.Below.{inverse_below}
use Rattle.coefficients.specs.Byte.{x_times, times}
use Rattle.values.proofs.examples_stand.Goals as goal

pub returns : goal.returns
unfolding inverse_below x_times times
returns c = record {
  degrees_A = (refl, refl);
  content_A = refl;
  content_B = refl;
  primitive_B = refl;
  lead_gcd_AB = refl;
  image_A = refl;
  image_gcd = refl;
  zero_gcd = refl;
  divided = refl;
  curve = refl;
  joined = refl;
  cofactor_A = refl;
  cofactor_B = refl;
  tabled = refl;
  bytes_gcd = refl;
}
