-- What a reader must believe of a message in pieces: the calls, the starts that are left, and what 02 asks.
pub mod Calls
pub mod Starts
pub mod Table
pub mod Pieces
