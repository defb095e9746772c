pub mod Ups
pub mod Kept
pub mod Founding
