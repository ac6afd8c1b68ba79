-- What a tally holds, and what the two calls answer and leave.
pub mod Tally
