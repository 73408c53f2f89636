pub mod Codes
pub mod Right
pub mod Answers
pub mod Alike
pub mod Determined
pub mod Collect
pub mod Method
