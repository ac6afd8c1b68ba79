-- How the code runs through the definitions.
pub mod Reading
pub mod Owners
pub mod Identifiers
pub mod Passing
