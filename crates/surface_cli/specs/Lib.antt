pub mod Arguments
pub mod Commands
pub mod Words
pub mod Taking
pub mod Out
pub mod Run
pub mod Headline
