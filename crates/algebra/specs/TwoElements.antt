-- The field of two elements: false is zero and true is one.
use Rattle.std.specs.Prelude.{◌≡◌, Bool, true, false, not, ◌&&◌, refl}
use Rattle.std.proofs.Math.Bool.{Bool-discrete, and_comm, and_assoc, and-true}
use Rattle.std.proofs.lemmas.Bool.{false≢true}
use Rattle.algebra.specs.Ring.{Ring}
use Rattle.algebra.specs.Field.{Field}

abbrev pub plus : Bool → Bool → Bool
plus true b = not b
plus false b = b

pub plus_assoc : (a b c : Bool) → plus (plus a b) c ≡ plus a (plus b c)
plus_assoc true true true = refl
plus_assoc true true false = refl
plus_assoc true false c = refl
plus_assoc false b c = refl

pub plus_comm : (a b : Bool) → plus a b ≡ plus b a
plus_comm true true = refl
plus_comm true false = refl
plus_comm false true = refl
plus_comm false false = refl

pub plus_false : (a : Bool) → plus a false ≡ a
plus_false true = refl
plus_false false = refl

pub plus_self : (a : Bool) → plus a a ≡ false
plus_self true = refl
plus_self false = refl

pub and_plus : (a b c : Bool) → (a && plus b c) ≡ plus (a && b) (a && c)
and_plus true b c = refl
and_plus false b c = refl

pub and_self : (a : Bool) → ¬ (a ≡ false) → (a && a) ≡ true
and_self true n = refl
and_self false n = absurd (n refl)

unfoldable pub two_elements_ring : Ring Bool
two_elements_ring = record {
  zero = false;
  one = true;
  add = plus;
  neg = λ a. a;
  mul = ◌&&◌;
  add_assoc = plus_assoc;
  add_comm = plus_comm;
  add_zero = plus_false;
  add_neg = plus_self;
  mul_assoc = and_assoc;
  mul_comm = and_comm;
  mul_one = and-true;
  mul_add = and_plus;
}

unfoldable pub two_elements : Field Bool
unfolding two_elements_ring
two_elements = record { ring = two_elements_ring; inv = λ a. a; discrete = Bool-discrete; zero≢one = false≢true; mul_inv = and_self }
