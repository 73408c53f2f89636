pub mod Prepared
pub mod Joined
pub mod Theorems
