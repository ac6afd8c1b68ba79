-- What the requests of 02 ask to be certain of the reading, as types to be held beside their sentences; proved in reading_laws.
pub mod OneText
