pub mod GrammarLaws
pub mod ListLaws
pub mod NumberLaws
pub mod PlaceLaws
pub mod ReadingLaws
pub mod RowLaws
pub mod TableLaws
pub mod TokenLaws
