pub mod Four
pub mod Rows
pub mod Sides
