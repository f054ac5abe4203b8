pub mod LineWords
pub mod Items
pub mod Plain
pub mod States
pub mod Fronts
pub mod Texts
