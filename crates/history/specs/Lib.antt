pub mod Acts
pub mod History
pub mod Accounts
pub mod Runs
pub mod Law
