-- What contracts of private functions and proofs are stated with. No public contract rests on it.
pub mod Grids
pub mod Numbering
pub mod Pairs
pub mod PlanBatches
pub mod ReachProps
pub mod Seen
