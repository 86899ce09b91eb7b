-- What contracts of private functions and proofs are stated with. No public contract rests on it.
pub mod Collected
pub mod Identified
pub mod Results
pub mod SameIds
pub mod Sums
