pub mod Degrees
pub mod Content
pub mod Join
pub mod Lead
pub mod Scale
pub mod Exact
