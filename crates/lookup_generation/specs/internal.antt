-- What contracts of private functions and proofs are stated with. No public contract rests on it.
pub mod Chunks
pub mod Flags
pub mod Fraction
pub mod GenerationInputs
pub mod Progress
