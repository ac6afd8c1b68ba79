-- How the loops of the code run through the definitions.
pub mod Counting
pub mod Cutting
pub mod Fitting
pub mod Stepping
pub mod Segments
