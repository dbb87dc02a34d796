pub mod Sample
pub mod Stream
pub mod WorkedCases
