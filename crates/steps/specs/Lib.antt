pub mod Faults
pub mod Factored
pub mod Share
pub mod Prepare
pub mod Look
pub mod Trial
pub mod Answer
pub mod Verdict
