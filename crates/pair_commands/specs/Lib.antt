pub mod Tilings
pub mod OnePair
pub mod Certify
pub mod Check
pub mod Landmarks
pub mod MarkReading
pub mod LineMarks
