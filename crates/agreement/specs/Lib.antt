pub mod Runs
pub mod Invariant
pub mod Agreed
