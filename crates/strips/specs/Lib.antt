pub mod Strips
pub mod Layers
pub mod Loads
pub mod Readers
pub mod Sets
