pub mod Drafts
pub mod Seals
