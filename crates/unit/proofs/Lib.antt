pub mod Writes
pub mod Places
pub mod Steps
pub mod Filing
pub mod Kept
pub mod Growing
