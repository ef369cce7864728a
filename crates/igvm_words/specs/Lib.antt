pub mod Words
pub mod WordsOfJob
pub mod JobView
