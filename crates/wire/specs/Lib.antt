pub mod Faults
pub mod Meaning
pub mod Calls
pub mod Slots
pub mod Stores
pub mod Making
pub mod Sends
pub mod Runs
