pub mod GroupCaps
pub mod Groups
pub mod RingSurfaces
pub mod Held
