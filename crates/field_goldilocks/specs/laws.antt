pub mod QuadraticField
pub mod Goldilocks
pub mod Goldilocks2
