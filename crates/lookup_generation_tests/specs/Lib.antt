pub mod PlainProgram
pub mod internal
