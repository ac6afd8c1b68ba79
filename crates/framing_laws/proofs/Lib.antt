-- What numbers 3 to 9 mean.
pub mod InStages
pub mod Decimals
pub mod MessageMeans
pub mod MessageTells
pub mod OneOutcome
