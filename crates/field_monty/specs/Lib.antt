pub mod Quartic
pub mod Montgomery
pub mod laws
pub mod internal
