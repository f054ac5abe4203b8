pub mod Text
pub mod WordLists
pub mod Outside
pub mod Memory
pub mod Formats
