pub mod Right
pub mod Method
