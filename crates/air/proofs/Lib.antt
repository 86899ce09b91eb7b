pub mod CellLaws
pub mod Cells
pub mod RecordedRows
pub mod VariableRows
