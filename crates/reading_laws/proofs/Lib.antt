-- Laws of the reading: what the definitions of reading/specs/method mean in terms of reading/specs/meaning.
pub mod Lists
pub mod Services
pub mod Segments
pub mod Accepting
pub mod FirstBad
pub mod Rendering
pub mod OneReading
pub mod OneText
pub mod Trailing
pub mod Cursors
pub mod Starts
pub mod Spans
pub mod Tags
pub mod Values
pub mod Examples
pub mod OneOutcome
