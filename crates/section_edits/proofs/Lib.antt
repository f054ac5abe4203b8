pub mod Finds
pub mod Pushes
pub mod Lawful
pub mod DistinctNames
pub mod ReshapedContours
pub mod AddedContours
pub mod DroppedContours
pub mod Answering
pub mod ChangedPoints
pub mod Remade
pub mod Named
pub mod Wording
pub mod LineLaws
mod Examples
pub mod ApplyFaults
pub mod Planning
pub mod Counting
pub mod EditLaws
mod SessionExamples
