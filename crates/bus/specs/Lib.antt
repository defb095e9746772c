pub mod Bounds
pub mod Store
pub mod Shared
