pub mod Answers
pub mod Around
pub mod Columns
pub mod Ranges
pub mod Results
pub mod internal
