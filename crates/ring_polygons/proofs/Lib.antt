pub mod Nearest
mod NearestLaws
pub mod Joining
mod Choices
pub mod JoinLaws
pub mod BridgeLaws
mod WorkedComposites
pub mod CompositeLaws
pub mod CutLaws
pub mod CapLaws
pub mod EarLaws
pub mod SignedSums
pub mod AreaLaws
pub mod Ranges
mod Gaps
mod StateLaws
mod CapSteps
mod EarTests
mod Signs
pub mod Turned
pub mod WorkedCaps
pub mod OneCut
