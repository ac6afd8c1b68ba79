pub mod laws
pub mod statements
