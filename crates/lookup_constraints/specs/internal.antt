-- What contracts of private functions and proofs are stated with. No public contract rests on it.
pub mod Accumulators
pub mod Asserted
pub mod Meanings
pub mod Quotients
pub mod Rows
pub mod Selections
pub mod Windows
