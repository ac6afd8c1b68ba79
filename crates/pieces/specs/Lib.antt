pub mod meaning
pub mod method
