-- How the stages of the code run through the definitions.
pub mod Refusals
pub mod Decided
