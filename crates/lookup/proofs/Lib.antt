pub mod BusLaws
mod Columns
mod DegreeLaws
pub mod Evaluations
pub mod Extracted
pub mod ExtractionLaws
pub mod FewestColumns
mod FillLaws
pub mod GroupLaws
pub mod Heights
pub mod JoinedMessages
pub mod KeptLaws
mod ListLaws
pub mod NamedWidthLaws
pub mod OneLookup
mod PackLaws
mod Rearranged
pub mod RearrangedSums
pub mod RecordLaws
pub mod SameKeys
pub mod StepLaws
mod TrialLaws
mod WidthLaws
pub mod Within
