pub mod Faults
pub mod Kinds
pub mod Said
pub mod Entries
pub mod Questions
