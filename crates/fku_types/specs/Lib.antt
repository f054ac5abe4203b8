pub mod Points
pub mod Names
pub mod Fault
pub mod Rules
