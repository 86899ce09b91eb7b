pub mod Nodes
pub mod Numbers
pub mod Tables
pub mod TraceNumbers
pub mod Written
pub mod internal
