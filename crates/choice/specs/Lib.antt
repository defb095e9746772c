pub mod Reports
pub mod Lives
pub mod Chosen
pub mod Steps
pub mod Samples
