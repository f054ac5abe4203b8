pub mod Rules
mod Beyond
mod BlockLaws
mod Beside
pub mod Firsts
pub mod ContourReads
mod GroupLaws
mod LeastBounds
mod Levels
pub mod Enclosed
pub mod Nested
pub mod Orienting
pub mod WorkedContours
pub mod ComponentLaws
pub mod Determined
pub mod Visiting
pub mod Marked
pub mod Adjacent
pub mod LeadsLaws
pub mod TableNodes
pub mod BegunComponents
pub mod Gathering
pub mod RowSteps
pub mod LinkedNameSteps
pub mod LinkTableSteps
pub mod RowReads
pub mod Held
pub mod Transferred
pub mod GapReads
pub mod ContourPlaceSteps
pub mod CauseReads
pub mod LinkLaws
mod Worked
