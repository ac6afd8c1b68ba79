-- How the code goes about it, for any numbers and any bytes: tied to the meaning by the laws of pieces_laws, and nothing that has to be believed.
pub mod Progress
pub mod Stops
pub mod Numbers
pub mod Calls
pub mod Outcomes
