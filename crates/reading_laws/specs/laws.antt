-- Words that the laws of reading are said in. No demand and no promise rests on them.
pub mod Outcome
pub mod Trailing
