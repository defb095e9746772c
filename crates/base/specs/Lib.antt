pub mod Limits
pub mod Layers
pub mod Asked
