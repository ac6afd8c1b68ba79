pub mod meaning
pub mod laws
