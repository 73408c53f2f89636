pub mod Dots
pub mod Late
pub mod Euclid
pub mod PrimeFields
