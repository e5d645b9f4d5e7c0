pub mod Kinds
pub mod Layouts
pub mod Tables
