pub mod Cuts
pub mod Counting
pub mod FileLaws
pub mod Sums
pub mod FirstLines
pub mod Finding
pub mod Places
