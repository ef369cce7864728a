pub mod Fronts
pub mod PageChunks
pub mod Records
