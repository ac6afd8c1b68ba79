-- What the proofs of the probe share, and that its promises have one outcome.
pub mod Standard
pub mod OneOutcome
