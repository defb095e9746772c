pub mod Agreeing
pub mod Keeping
pub mod Theorem
