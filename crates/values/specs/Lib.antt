pub mod Forms
pub mod Values
pub mod Rows
pub mod Writing
pub mod Records
pub mod Money
