pub mod Answering
pub mod Exact
pub mod Lengths
pub mod Progress
pub mod Sound
pub mod Worked
