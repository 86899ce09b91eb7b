pub mod Entries
pub mod SentMessages
pub mod TraceBuilder
