pub mod Backs
pub mod Going
