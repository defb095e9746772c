pub mod Places
pub mod Laid
