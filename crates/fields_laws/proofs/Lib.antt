-- Laws of fields: that the least fault is found.
-- the form n
pub mod Numbers
-- a segment's components as they are written, and what the test of one field says
pub mod Pieces
pub mod Broken
-- the order of places, and the least one at fault
pub mod Places
pub mod Least
pub mod FieldFault
-- over the segments of a message
pub mod FirstFault
pub mod Examples
pub mod OneOutcome
