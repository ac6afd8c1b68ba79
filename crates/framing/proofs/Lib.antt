-- How the loops and stages of the code run through the definitions.
pub mod Decimals
pub mod Frames
pub mod Messages
pub mod Passing
