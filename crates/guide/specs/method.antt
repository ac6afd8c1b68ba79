-- How the code holds it, tied to the meaning by its contracts.
pub mod Sizes
pub mod Codes
pub mod Targets
pub mod Spoken
