pub mod Covering
pub mod Runs
