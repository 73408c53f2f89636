pub mod Divide
pub mod Divisors
pub mod Euclid
pub mod Degrees
pub mod Roots
pub mod Monic
pub mod OneUnknown
