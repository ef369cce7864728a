pub mod Records
pub mod Outcomes
pub mod AddedBytes
