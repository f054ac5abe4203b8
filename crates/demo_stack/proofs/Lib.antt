pub mod Runs
pub mod Names
pub mod Lists
pub mod Spots
pub mod Demos
pub mod Border
pub mod Worked
