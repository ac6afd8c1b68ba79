-- How the code goes about it, for any bytes: tied to the meaning by the laws of fields_laws, and nothing that has to be believed.
pub mod Number
pub mod Parts
pub mod Testing
pub mod Kept
