-- How the code goes about it, for any bytes: tied to the meaning by the laws of reading_laws, and nothing that has to be believed.
pub mod Outcome
pub mod Machine
pub mod Part
pub mod Starts
pub mod Tag
pub mod Kept
