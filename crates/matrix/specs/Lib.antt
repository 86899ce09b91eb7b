pub mod Matrix
pub mod TwoRows
