-- What contracts of private functions and proofs are stated with. No public contract rests on it.
pub mod Batches
pub mod Enforced
pub mod Faults
pub mod Generate
pub mod Packing
pub mod PlannedAirs
pub mod Shift
pub mod VerifyAir
