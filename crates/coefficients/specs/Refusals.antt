-- The refusals of the rules that the faults of this crate are.
use Rattle.rules.specs.declared.refusal.Refusal.{Refusal}
use Rattle.rules.specs.declared.refusal.Refusal.TheVariants.{ForeignPoint, Modulus, NoField}
use Rattle.rules.specs.declared.refusal.Stage.TheVariants.{Alone}
use Rattle.coefficients.specs.declared.kind.ReciprocalFault.{ReciprocalFault}
use Rattle.coefficients.specs.declared.kind.ReciprocalFault.TheVariants.{Foreign, NoReciprocal}
use Rattle.coefficients.specs.declared.modulus.ModulusFault.{ModulusFault}
use Rattle.coefficients.specs.declared.modulus.ModulusFault.TheVariants.{OutOfRange}

-- a reciprocal called by itself
abbrev pub reciprocal_refusal : ReciprocalFault → Refusal
reciprocal_refusal (Foreign c) = ForeignPoint c
reciprocal_refusal (NoReciprocal c) = NoField c Alone

abbrev pub modulus_refusal : ModulusFault → Refusal
modulus_refusal (OutOfRange m) = Modulus m
