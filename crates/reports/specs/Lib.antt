pub mod Surveys
pub mod Reports
