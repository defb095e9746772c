pub mod Walks
pub mod Sets
