pub mod ListLaws
pub mod LoopSteps
pub mod TruthLaws
pub mod SplitLaws
pub mod AnswerLaws
pub mod NameLemmas
mod Worked
