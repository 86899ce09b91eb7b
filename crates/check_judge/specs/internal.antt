-- What contracts of private functions and proofs are stated with. No public contract rests on it.
pub mod Asserted
pub mod Sharing
pub mod Sizes
