pub mod Right
pub mod Opening
pub mod Collecting
pub mod Law
pub mod Cases
