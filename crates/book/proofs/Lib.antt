-- Laws of guide books: first of rules and tests, then of books.
pub mod Rules
pub mod Asked
pub mod Digits
pub mod Tables
pub mod Passing
pub mod Checking
pub mod Tested
