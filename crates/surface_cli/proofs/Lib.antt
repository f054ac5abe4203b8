pub mod RunLemmas
mod HeadlineLemmas
mod VerdictLines
mod Worked
mod WorkedWords
mod ArgumentLemmas
mod GivenLemmas
mod NumberLemmas
mod TakenLemmas
