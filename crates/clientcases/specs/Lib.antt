pub mod Covering
pub mod Keeping
pub mod Sparing
