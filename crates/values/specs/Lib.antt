pub mod Ops
pub mod Values
pub mod Tables
pub mod Meaning
pub mod Relations
pub mod Theorems
pub mod RowTheorems
pub mod Examples
