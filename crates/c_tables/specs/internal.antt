-- What contracts of private functions and proofs are stated with. No public contract rests on it.
pub mod Nodes
pub mod Numbers
pub mod Stack
pub mod Written
