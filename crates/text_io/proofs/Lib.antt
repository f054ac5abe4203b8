pub mod TextLemmas
pub mod NumberLemmas
pub mod WrittenLines
pub mod WordLaws
pub mod FormatLaws
pub mod DigitNames
mod Worked
pub mod OutsideLemmas
mod WorkedStreams
