-- What the C door hands over.
pub mod Door
