mod AmountLaws
mod Counting
mod ReadingLaws
mod Places
mod BoundLaws
mod Rows
mod Traces
mod FirstLeast
mod Reaching
mod StripCostLaws
mod RowTables
mod FanLaws
mod RowStarts
mod StartLaws
mod TurnLaws
mod Lowered
mod OffsetLaws
mod GapLaws
mod SolveLaws
pub mod SolutionLaws
pub mod Worked
mod WorkedLists
mod WorkedSearches
mod WorkedTables
