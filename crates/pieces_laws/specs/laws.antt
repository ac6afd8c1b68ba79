-- Words that the laws of pieces are said in.
pub mod Run
