-- The laws of the tally.
pub mod Cases
pub mod Counts
pub mod OneCall
pub mod Sums
pub mod AddsUp
pub mod OneOutcome
pub mod Examples
