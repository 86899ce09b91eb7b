-- What contracts of private functions and proofs are stated with. No public contract rests on it.
pub mod Four
pub mod Lanes
pub mod NormLists
pub mod Planes
