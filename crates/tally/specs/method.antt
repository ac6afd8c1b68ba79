-- How the code names its refusals.
pub mod Refusal
