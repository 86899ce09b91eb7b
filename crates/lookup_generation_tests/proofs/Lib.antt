pub mod Bits
pub mod PlainProgramLaws
