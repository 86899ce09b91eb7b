pub mod Quadratic
pub mod Goldilocks
pub mod Goldilocks2
pub mod laws
