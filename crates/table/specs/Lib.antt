pub mod Tables
pub mod Faults
pub mod Questions
pub mod Listed
pub mod Means
pub mod Laws
pub mod Samples
