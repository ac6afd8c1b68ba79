-- How numbers go into a lent table.
pub mod Fitting
