pub mod PartLaws
pub mod WordLaws
