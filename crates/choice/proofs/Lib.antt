pub mod Masks
pub mod Grows
pub mod Settles
pub mod Backed
