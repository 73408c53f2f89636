pub mod Points
pub mod Job
pub mod Offer
pub mod Invariant
pub mod Run
pub mod Calls
pub mod Law
pub mod Examples
