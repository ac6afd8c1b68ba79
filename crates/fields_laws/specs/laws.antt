-- Words that the laws of fields are said in: what the pass over a message answers. No demand and no promise rests on them.
pub mod FirstFault
