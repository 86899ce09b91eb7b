-- What contracts of private functions and proofs are stated with. No public contract rests on it.
pub mod IntegersModulo2
pub mod IntegersModulo7
pub mod Polynomial
