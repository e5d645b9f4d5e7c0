pub mod Putting
pub mod Laying
pub mod Faults
pub mod Showing
pub mod Bounds
pub mod Fitting
