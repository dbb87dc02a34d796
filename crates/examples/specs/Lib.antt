pub mod FlatFees
pub mod GrowingFees
