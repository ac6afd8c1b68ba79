-- How the loops of the code run through the definitions. What the definitions mean is said by the laws of reading_laws.
pub mod Booleans
pub mod States
pub mod Ending
pub mod Scanning
pub mod Starts
pub mod Seeking
pub mod Comparing
