pub mod Asserted
pub mod Quotients
pub mod internal
