pub mod Faults
pub mod Worlds
pub mod Calls
