pub mod Chains
pub mod Effects
pub mod Histories
pub mod Rows
