pub mod Slices
pub mod Roundings
pub mod Densified
pub mod Marks
pub mod Faults
