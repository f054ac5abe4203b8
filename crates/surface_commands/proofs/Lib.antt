pub mod ReportLemmas
pub mod ObjectCounts
pub mod SliceLemmas
mod MeshLemmas
pub mod SliceTexts
mod CountLemmas
mod DensifyLemmas
pub mod EditLemmas
mod Worked
