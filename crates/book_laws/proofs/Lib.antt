-- Laws of guide books: what a good book's rules give the layers above, by name; then two books, and that each call has one outcome, and each reading of a word.
pub mod Clauses
pub mod ViewedLines
pub mod ViewedRows
pub mod Parents
pub mod OneHome
pub mod Bytes
pub mod Inhabited
pub mod OneOutcome
pub mod OneWord
