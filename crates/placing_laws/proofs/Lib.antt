-- Laws of placing: what the walk and the tables mean in terms of placement trees.
-- a good book's lines, as placing needs them
pub mod Structured
-- codes and homes, in the bytes and in the abstract
pub mod Codes
pub mod Homes
-- what the scans over lines find
pub mod LeavingOut
-- trees and the walk: what it stands for, how it is completed, that there is one tree at most, where it stops
pub mod Trees
pub mod Walks
pub mod Completing
pub mod OnePlacement
pub mod Stopping
-- the parents, as they are written and in closed form
pub mod Noted
pub mod Closed
-- one segment carries the Prüfidentifikator
pub mod OneIdentifier
-- all of it, of a message's own bytes
pub mod Messages
pub mod Examples
pub mod OneOutcome
