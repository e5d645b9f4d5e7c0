pub mod ReaderLaws
pub mod Steps
pub mod SetLaws
pub mod FieldStrips
pub mod Sound
pub mod Complete
pub mod Loading
pub mod WriteLaws
