-- What is written into a lent table.
pub mod Lent
