pub mod Rings
pub mod Pairs
pub mod SectionFaults
pub mod Ranges
pub mod Unchanged
