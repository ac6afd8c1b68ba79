-- How the code goes about it, for any bytes: tied to the meaning by the laws of rules_laws, and nothing that has to be believed.
pub mod Conditions
pub mod Scanning
pub mod Passing
pub mod Identifiers
