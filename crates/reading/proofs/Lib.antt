pub mod RowSteps
pub mod Walks
pub mod Outcomes
pub mod Moneys
