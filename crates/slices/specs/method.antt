-- How sizes go into lent tables.
pub mod Entries
