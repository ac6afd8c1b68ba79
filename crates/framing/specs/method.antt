-- How the code goes about it, for any bytes: tied to the meaning by the laws of framing_laws, and nothing that has to be believed.
pub mod Decimal
pub mod Stages
pub mod Survey
pub mod Refusals
