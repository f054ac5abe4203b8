pub mod LastDistances
pub mod Rows
pub mod Spelling
pub mod Values
pub mod Rounds
pub mod Turning
pub mod Through
pub mod PieceCosts
pub mod Apart
pub mod Soundness
pub mod CheckLaws
pub mod Orders
pub mod ChainLaws
pub mod Alike
pub mod Unique
mod Worked
pub mod Crossed
