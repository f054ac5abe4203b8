pub mod LoopReads
pub mod SliceHeights
pub mod GapPairs
mod SliceFaults
mod WorkedSlices
pub mod SliceLaws
mod SliceCounts
mod ObjectSlices
pub mod Rounds
pub mod Openings
pub mod RoundedLoops
pub mod Lists
pub mod DenseGaps
pub mod Outlines
pub mod Names
pub mod LinkLists
pub mod SectionReads
pub mod Corresponding
pub mod Told
pub mod Heights
pub mod Made
pub mod Densifying
pub mod OneDensified
pub mod Exact
pub mod LinkReads
mod WorkedMiddles
