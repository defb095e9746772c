pub mod Sets
pub mod Covers
pub mod Decisions
