-- Words that the laws of placing are said in: the tree in closed form, what each answer of the test pass says, how often a line
-- occurs, and the end of a walk. No demand and no promise rests on them.
pub mod ClosedTree
pub mod Answers
pub mod Occurrences
pub mod AtEnd
