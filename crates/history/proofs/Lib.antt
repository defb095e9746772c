pub mod Asked
pub mod Told
pub mod Promises
pub mod Steps
