pub mod Fitting
pub mod Memory
pub mod StepLaws
pub mod SizeLaws
pub mod PutLaws
pub mod Outcomes
