-- What 02 asks to be certain of a message in pieces, as a type, of the crate's own calls and for every good set of service characters. What is asked stands in
-- pieces/specs/meaning; demands/specs/statements says the same of the exported calls.
pub mod Pieces
