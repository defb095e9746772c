pub mod Parts
pub mod Entries
pub mod Messages
