use Rattle.std.proofs.Common.{refl}
use Rattle.coefficients.proofs.PrimeFields.{prime_by_test}
use Rattle.coefficients.proofs.primes.KnownPrime.modulus.Goals as goal

pub returns-in-Eleven-clause-prime : goal.returns-in-Eleven-clause-prime
returns-in-Eleven-clause-prime c = prime_by_test 4 11 refl

pub returns-in-LargestModulus-clause-prime : goal.returns-in-LargestModulus-clause-prime
returns-in-LargestModulus-clause-prime c = prime_by_test 46341 2147483647 refl
