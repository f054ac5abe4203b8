pub mod PassedStrips
pub mod JoinedPlaces
pub mod PlaceSums
pub mod RingFacts
pub mod CapIds
pub mod StripSums
pub mod SurfaceSums
pub mod SectionFacts
pub mod KnownIds
pub mod MarkSteps
pub mod CapSteps
pub mod StripSteps
pub mod Totals
mod CapClosing
pub mod Valid
pub mod SurfaceLaws
pub mod PairSolves
pub mod ObjectFacts
pub mod ObjectSteps
pub mod ObjectLaws
pub mod JoinedSizes
mod NearPairs
mod OnlyBuilt
mod Worked
mod WorkedSquares
