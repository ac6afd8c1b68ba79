-- What a reader must believe of rules, said of the placement tree, which the code of rules does not know.
pub mod OnTree
