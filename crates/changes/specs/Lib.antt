pub mod Edits
pub mod Places
pub mod States
pub mod Calls
pub mod Backs
pub mod Kinds
