pub mod Bounds
pub mod Checked
pub mod Facts
pub mod Hold
pub mod Kinds
pub mod Polynomials
pub mod internal
