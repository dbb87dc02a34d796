pub mod Frames
pub mod Journals
pub mod Lines
pub mod Numerals
pub mod Runs
