-- How the verdict is worked out, for any bytes: 01's number for each answer of the layers below, and the table. What it means is said and
-- proved in the crate demands.
pub mod Answers
pub mod Table
pub mod Refusals
pub mod Faults
