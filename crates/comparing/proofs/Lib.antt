pub mod Equal
pub mod SameSteps
pub mod SameLaws
