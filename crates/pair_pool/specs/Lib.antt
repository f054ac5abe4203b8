pub mod Batches
pub mod Finding
pub mod Jobs
pub mod Solvers
