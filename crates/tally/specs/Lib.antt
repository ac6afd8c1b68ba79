pub mod meaning
pub mod method
pub mod statements
