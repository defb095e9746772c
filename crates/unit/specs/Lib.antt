pub mod Faults
pub mod States
pub mod Reported
pub mod Rules
pub mod Sending
pub mod Letters
pub mod Laws
pub mod Acts
