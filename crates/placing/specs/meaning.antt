-- What a reader must believe of placing, in the order of 01's "Placing and judging", first paragraph.
pub mod Fitting
pub mod Placement
pub mod Answers
