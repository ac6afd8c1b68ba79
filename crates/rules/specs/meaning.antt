-- What a reader must believe of rules: conditions, rows, where they apply, and in which order they are told.
pub mod Conditions
pub mod Rows
pub mod Instances
pub mod Entries
pub mod Identifiers
