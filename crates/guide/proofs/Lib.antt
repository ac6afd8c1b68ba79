-- What the sizes of every edition keep; where records begin, and what their numbers are made of; how deep lines lie; and how the code
-- runs through codes one by one.
pub mod Editions
pub mod Places
pub mod WideNumbers
pub mod Depths
pub mod Codes
