pub mod meaning
pub mod statements
