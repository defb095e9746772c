pub mod Sums
pub mod Entries
pub mod Walks
pub mod Laid
