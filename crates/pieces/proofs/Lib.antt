-- How a piece is passed, and what the two calls answer and leave.
pub mod Passing
pub mod Cases
