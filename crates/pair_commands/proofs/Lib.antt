pub mod TilingsLemmas
pub mod CertLemmas
mod CertTails
pub mod MarkLines
pub mod PairGroups
pub mod GoodMarks
pub mod MarkGroups
pub mod MarkTexts
