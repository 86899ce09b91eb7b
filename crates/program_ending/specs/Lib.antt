pub mod Endings
pub mod Written
