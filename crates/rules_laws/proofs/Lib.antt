-- Laws of rules: what the definitions mean.
-- fillings, and what two readings of a row say of them
pub mod Fillings
pub mod Exact
-- the Prüfidentifikator
pub mod Identifiers
-- where a line stands, what the pass over the homes finds, how the lists show the tree, and that what is found is the first row
pub mod Lines
pub mod InstancesFound
pub mod InTree
pub mod Required
pub mod Scanned
-- line and place tell the row
pub mod Keys
pub mod Findings
-- no row is broken exactly when the rules hold on the tree
pub mod OnTree
-- a finding is sure exactly when every filling finds the same, and open exactly when two differ
pub mod SureOrOpen
pub mod FirstFound
pub mod Examples
pub mod OneOutcome
