pub mod Rows
pub mod Elements
pub mod Powers
pub mod Relations
pub mod Numbers
pub mod Steps
pub mod Calls
pub mod Product
