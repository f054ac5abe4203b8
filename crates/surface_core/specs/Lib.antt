pub mod Marks
pub mod Surfaces
pub mod Objects
pub mod Caps
