-- How four bytes are stored.
pub mod Stores
