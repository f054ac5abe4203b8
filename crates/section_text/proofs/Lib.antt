mod LineTakes
mod FrontLemmas
pub mod FourLines
mod PlainLines
mod Worked
