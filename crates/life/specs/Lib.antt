pub mod Lives
pub mod Laws
