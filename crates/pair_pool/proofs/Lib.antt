mod Found
mod Made
pub mod Referents
mod Slots
mod Taken
pub mod SolutionLists
pub mod Worked
