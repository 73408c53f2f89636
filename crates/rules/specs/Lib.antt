pub mod Numbers
pub mod Job
pub mod Offer
pub mod Run
pub mod Points
pub mod Law
pub mod Examples
