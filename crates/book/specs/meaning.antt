-- What a reader must believe of guide books: when one is good.
pub mod Rule
pub mod GoodBook
