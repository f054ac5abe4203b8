pub mod FieldLaws
pub mod FilledDigits
mod NumberLaws
mod TextLaws
mod Worked
pub mod Cancel
pub mod TextLines
pub mod FieldBytes
pub mod LineForms
pub mod Written
pub mod Fronts
pub mod Made
pub mod Completed
pub mod Widths
pub mod BehindHead
pub mod CountsStuck
pub mod PointsStuck
pub mod PolygonsStuck
pub mod Whole
pub mod Told
pub mod Blanks
pub mod SixDigits
pub mod LineFields
pub mod Steps
pub mod PlainFronts
mod WorkedReading
mod FirstLine
