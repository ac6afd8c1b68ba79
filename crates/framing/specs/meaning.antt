-- What a reader must believe of the message alone: the record, and what numbers 3 to 9 of 01's table say.
pub mod Record
pub mod Limits
pub mod Decimal
pub mod Table
