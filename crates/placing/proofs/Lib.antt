-- How the loops of the code run through the definitions: the walk, the search, the passes, the tables.
pub mod Loops
pub mod Steps
pub mod OrNone
pub mod Finding
pub mod Passing
pub mod Entries
