pub mod Room
pub mod State
pub mod Held
pub mod Sound
pub mod Checks
pub mod Promises
pub mod Holding
