pub mod Coefficients
pub mod Offers
pub mod laws
