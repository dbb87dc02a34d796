pub mod Sold
pub mod Worked
