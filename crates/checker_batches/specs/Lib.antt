pub mod Answers
pub mod Collected
pub mod Packed
pub mod Renamed
pub mod Soundness
pub mod internal
