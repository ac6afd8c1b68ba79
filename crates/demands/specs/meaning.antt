-- What has to be believed beyond the layers: what 01's table says, the three demands, and what they say of the call.
pub mod Table
pub mod Demands
pub mod Closing
pub mod Lookup
