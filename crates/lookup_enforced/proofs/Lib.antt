mod BoundLaws
mod FixedLaws
mod FlagLaws
mod RowLaws
pub mod WeightLaws
