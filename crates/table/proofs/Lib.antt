pub mod Few
pub mod Masks
pub mod Passes
pub mod Trials
