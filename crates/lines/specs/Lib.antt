pub mod Rules
pub mod Judging
pub mod Belongs
pub mod Refuses
