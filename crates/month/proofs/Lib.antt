pub mod Blank
pub mod Percents
