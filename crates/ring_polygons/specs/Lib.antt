pub mod Composites
pub mod Bridges
pub mod Faults
pub mod Nearest
pub mod Extents
pub mod Caps
pub mod Ears
pub mod States
