pub mod GrowingFees
