pub mod RunRefusals
pub mod Runs
pub mod Told
pub mod internal
