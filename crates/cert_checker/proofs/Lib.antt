pub mod Firsts
pub mod Rows
mod Worked
mod WorkedTexts
pub mod RowLists
pub mod HeadLines
pub mod RowWords
pub mod Fronts
pub mod NextLines
pub mod TextLaws
pub mod PrintedCerts
pub mod PrintedSizes
