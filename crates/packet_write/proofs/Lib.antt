pub mod Lengths
pub mod Over
