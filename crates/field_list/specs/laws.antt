-- Laws of the fields that are offered.
pub mod Coefficients
