-- What the requests of 02 ask to be certain of the exported calls, as types to be held beside their sentences.
pub mod Pieces
