pub mod Rows
pub mod Decided
pub mod Rules
pub mod Said
