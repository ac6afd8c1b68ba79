-- What a reader must believe of fields, in the order of 01's "Placing and judging", second paragraph.
pub mod Number
pub mod Fields
