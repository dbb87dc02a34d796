pub mod Layout
pub mod Questions
pub mod Reading
pub mod Values
pub mod Writing
