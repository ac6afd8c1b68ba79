-- The laws of a message in pieces.
pub mod Runs
pub mod Lending
pub mod OneVerdict
pub mod Capped
pub mod Parsed
pub mod Told
pub mod Telling
pub mod Sound
pub mod Finished
pub mod OneTable
pub mod Answers
pub mod States
pub mod Calls
pub mod Pieces
pub mod OneOutcome
