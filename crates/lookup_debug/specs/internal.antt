-- What contracts of private functions and proofs are stated with. No public contract rests on it.
pub mod Appended
pub mod Arena
pub mod Checks
pub mod GroupList
pub mod Kept
pub mod Least
pub mod Nets
pub mod Places
pub mod Tallies
pub mod Visits
pub mod Walks
