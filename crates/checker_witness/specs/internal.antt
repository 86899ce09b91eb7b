-- What contracts of private functions and proofs are stated with. No public contract rests on it.
pub mod Products
pub mod Quotients
pub mod Renumbered
pub mod Rows
pub mod TraceRows
