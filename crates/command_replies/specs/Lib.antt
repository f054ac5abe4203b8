pub mod Statuses
pub mod Reply
pub mod Stages
