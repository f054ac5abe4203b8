pub mod Verdicts
pub mod Steps
pub mod CertTexts
pub mod CertReading
pub mod LineSteps
