pub mod Enforced
pub mod Extraction
pub mod Fixed
pub mod Weights
pub mod internal
