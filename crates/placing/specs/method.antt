-- How the code goes about it, for any bytes: tied to the meaning by the laws of placing_laws, and nothing that has to be believed.
pub mod Fitting
pub mod Kept
pub mod Walking
pub mod Tree
pub mod Passes
pub mod Tables
