pub mod Each
pub mod Images
pub mod Items
pub mod Parts
pub mod Zips
