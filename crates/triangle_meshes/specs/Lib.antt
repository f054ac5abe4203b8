pub mod Meshes
pub mod Tiles
pub mod Joined
pub mod Edges
pub mod Keys
pub mod Volumes
pub mod Vectors
