pub mod RowLaws
pub mod Worked
