pub mod Declaration
pub mod Faults
pub mod Refusal
