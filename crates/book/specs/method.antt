-- How the code goes about it, tied to the meaning by laws: how it tests, in which order, what its tables hold.
pub mod Run
pub mod Each
pub mod Tables
pub mod Answer
