pub mod Assertions
pub mod Cells
pub mod FirstFaults
