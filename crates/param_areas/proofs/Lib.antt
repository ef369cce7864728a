pub mod Written
pub mod Changes
pub mod InBuffer
pub mod Histories
pub mod Kept
pub mod ByCalls
