pub mod StripLaws
mod KnownEdges
pub mod TileIds
mod SortedNumbers
mod Ways
pub mod TriangleCounts
pub mod Parts
pub mod Validity
pub mod PairTests
pub mod KeyLaws
pub mod VertexPairs
mod Worked
pub mod JoinedMeshes
pub mod Sizes
pub mod Determinants
pub mod Anywhere
mod WorkedVolumes
