pub mod Cases
pub mod Run
