-- What a reader must believe of what stands in a guide book.
pub mod Numbers
pub mod Words
pub mod Header
pub mod Edition
pub mod Blocks
pub mod Guide
pub mod View
pub mod Plan
pub mod Tree
