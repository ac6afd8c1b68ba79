-- Words that the laws of rules are said in: how the first row would be found by trying. The laws lead over it from the one pass of the
-- code to the meaning; no demand and no promise rests on it.
pub mod FirstFound
