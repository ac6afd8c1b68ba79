-- What a reader must believe of the reading, in the order of 01's "Bytes of a message".
pub mod Service
pub mod Digit
pub mod Message
pub mod Tag
pub mod WellFormed
pub mod Component
pub mod Starts
