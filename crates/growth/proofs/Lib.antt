pub mod Entirely
pub mod Grown
