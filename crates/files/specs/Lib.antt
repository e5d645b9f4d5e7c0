pub mod Lines
pub mod Files
pub mod Totals
pub mod Differences
