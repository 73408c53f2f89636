pub mod Primitive
pub mod Gauss
pub mod Pseudo
pub mod Domain
pub mod Contents
pub mod Gcds
pub mod Width
