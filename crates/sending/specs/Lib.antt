pub mod Letters
pub mod Went
