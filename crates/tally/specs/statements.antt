-- What the requests of 02 ask to be certain of the tally, as types to be held beside their sentences; proved in tally_laws.
pub mod AddsUp
