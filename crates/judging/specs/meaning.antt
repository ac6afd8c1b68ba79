-- What has to be believed of judging itself: the tables.
pub mod Tables
