pub mod Primitive
pub mod Degrees
pub mod TwoUnknowns
