-- That what C links promises what the demands speak of.
pub mod Door
