pub mod ReplyLemmas
pub mod AnswerLemmas
pub mod ObjectTexts
pub mod TailLemmas
mod Worked
mod Wordless
pub mod FourFirst
