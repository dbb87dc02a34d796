pub mod Assessed
pub mod Balances
pub mod CorrectionLaws
pub mod Numbers
pub mod Settled
pub mod Taken
