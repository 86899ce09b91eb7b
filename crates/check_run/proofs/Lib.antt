pub mod OpenedLaws
pub mod RunRefusalLaws
pub mod TellLaws
pub mod VerdictLaws
