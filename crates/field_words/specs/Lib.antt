pub mod Fields
pub mod Words
